use Rattle.rs_tool.proofs.EnoughRoom.{drawn_never_full, never_full}
use Rattle.rs_tool.proofs.laws.runs_with_enough_room_are_never_full.Goals as goal

pub returns-clause-run : goal.returns-clause-run
returns-clause-run c = never_full

pub returns-clause-drawn : goal.returns-clause-drawn
returns-clause-drawn c = drawn_never_full
