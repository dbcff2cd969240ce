use Rattle.rs_room.proofs.Enough.{only_who_can}
use Rattle.rs_room.proofs.laws.who_has_a_bounded_step_can_go_on.Goals as goal

pub returns : goal.returns
returns c = only_who_can
