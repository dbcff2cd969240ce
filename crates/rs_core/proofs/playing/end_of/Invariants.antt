use Rattle.rs_core.specs.Rounds.{NoneSends}
use Rattle.rs_core.proofs.playing.end_of.Given as goal

abbrev pub invariant-loop-place : goal.invariant-loop-place
invariant-loop-place g l = NoneSends (g.Q.Queues.core l.queues) l.place
