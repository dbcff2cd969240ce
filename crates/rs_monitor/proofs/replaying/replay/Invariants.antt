use Rattle.std.proofs.Common.{take}
use Rattle.rs_monitor.specs.Replays.{Makes}
use Rattle.rs_monitor.proofs.replaying.replay.Given as goal

abbrev pub invariant-loop-place : goal.invariant-loop-place
invariant-loop-place l = Makes l.machine l.machine.start (take l.place l.acts) l.at
