use Rattle.std.proofs.Common.{◌≡◌, ◌++◌, drop}
use Rattle.rs_graph.specs.Removing.{moveless}
use Rattle.rs_graph.proofs.removal.without_moves.Given as goal

abbrev pub invariant-loop-node : goal.invariant-loop-node
invariant-loop-node l = l.order.items ++ moveless l.node (drop l.node l.graph.outs) ≡ moveless 0 l.graph.outs
