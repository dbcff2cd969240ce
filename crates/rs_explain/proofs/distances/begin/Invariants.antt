use Rattle.rs_explain.specs.Distances.{AreEnds}
use Rattle.rs_explain.proofs.distances.begin.Given as goal

abbrev pub invariant-loop-node : goal.invariant-loop-node
invariant-loop-node l = AreEnds l.ends l.far.items l.queue.items l.node
