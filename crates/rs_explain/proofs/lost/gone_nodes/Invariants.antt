use Rattle.std.proofs.Common.{◌==◌}
use Rattle.rs_explain.specs.OnWay.{AreFlags}
use Rattle.rs_graph.specs.Removal.{at, moves_at}
use Rattle.rs_explain.proofs.lost.gone_nodes.Given as goal

abbrev pub invariant-loop-node : goal.invariant-loop-node
invariant-loop-node l = AreFlags (λ n. at l.current n == moves_at l.graph.outs n) l.node l.gone.items
