use Rattle.std.proofs.Common.{◌≡◌, ◌+◌, drop, replicate}
use Rattle.rs_model.specs.declared.limits.TheConstants.{MOST_TALKS}
use Rattle.rs_bodies.specs.Shapes.{reaches_behind_places}
use Rattle.rs_bodies.proofs.shapes.reaches.Given as goal

abbrev pub invariant-loop-number : goal.invariant-loop-number
invariant-loop-number g l =
    reaches_behind_places l.number (drop l.number (g.G.NumberedGraph.places l.graph)) l.reaches ≡ reaches_behind_places 0 (g.G.NumberedGraph.places l.graph) (replicate (MOST_TALKS + 1) 0)
