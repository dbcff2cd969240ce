use Rattle.std.proofs.Common.{◌-◌, ◌^◌, length}
use Rattle.rs_bodies.proofs.Printed.{Goes}
use Rattle.rs_bodies.proofs.printing.print_body.Given as goal

abbrev pub invariant-loop-printer : goal.invariant-loop-printer
invariant-loop-printer g l = Goes g.G.NumberedGraph.dialect l.fn.names (g.G.NumberedGraph.places l.fn.graph) (g.G.NumberedGraph.root l.fn.graph) l.fn.text l.printer

abbrev pub decreases-loop-printer : goal.decreases-loop-printer
decreases-loop-printer g l = 2 ^ 64 - length l.printer.text
