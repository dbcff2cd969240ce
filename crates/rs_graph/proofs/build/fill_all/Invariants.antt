use Rattle.std.proofs.Common.{false, take}
use Rattle.rs_graph.specs.Filling.{IsFilled}
use Rattle.rs_graph.specs.Graphs.{moves_of}
use Rattle.rs_graph.proofs.build.fill_all.Given as goal

abbrev pub invariant-loop-i : goal.invariant-loop-i
invariant-loop-i l = IsFilled l.fn.graph l.graph l.node (moves_of false (take l.i l.row))
