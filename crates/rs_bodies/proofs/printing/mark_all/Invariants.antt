use Rattle.std.proofs.Common.{◌≡◌, drop}
use Rattle.rs_bodies.specs.Printing.{flags_behind_places}
use Rattle.rs_bodies.proofs.printing.mark_all.Given as goal

abbrev pub invariant-loop-number : goal.invariant-loop-number
invariant-loop-number g l = flags_behind_places l.number (drop l.number (g.G.NumberedGraph.places l.graph)) l.flags ≡ flags_behind_places 0 (g.G.NumberedGraph.places l.graph) l.fn.flags
