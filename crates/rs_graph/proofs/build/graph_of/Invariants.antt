use Rattle.rs_graph.specs.Built.{IsBuilt}
use Rattle.rs_graph.proofs.build.graph_of.Given as goal

abbrev pub invariant-loop-i : goal.invariant-loop-i
invariant-loop-i l = IsBuilt l.anys l.rows l.i l.graph
