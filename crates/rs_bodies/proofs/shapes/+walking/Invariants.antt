use Rattle.std.proofs.Common.{◌≡◌, ◌+◌, ◌*◌, drop}
use Rattle.rs_bodies.specs.Shapes as spec
use Rattle.rs_bodies.proofs.shapes.+walking.Given as goal

abbrev pub decreases-walk_behind_head : goal.decreases-walk_behind_head
decreases-walk_behind_head g l = l.fuel * 4

abbrev pub decreases-walk_behind_next : goal.decreases-walk_behind_next
decreases-walk_behind_next g l = l.fuel * 4 + 1

abbrev pub decreases-walk_behind_arms : goal.decreases-walk_behind_arms
decreases-walk_behind_arms g l = l.fuel * 4 + 2

abbrev pub decreases-walk_behind_point : goal.decreases-walk_behind_point
decreases-walk_behind_point g l = l.fuel * 4 + 3

abbrev pub invariant-walk_behind_arms-loop-arm : goal.invariant-walk_behind_arms-loop-arm
invariant-walk_behind_arms-loop-arm g l =
    spec.walk_behind_arms (spec.walk_behind_head l.fuel l.trail.dialect (spec.outline (g.G.NumberedGraph.places l.graph) l.trail) l.depth)
    (spec.number_of_end (g.G.NumberedGraph.places l.graph)) l.from
    (drop l.arm-index l.arms) l.walk
    ≡ spec.walk_behind_arms (spec.walk_behind_head l.fuel l.trail.dialect (spec.outline (g.G.NumberedGraph.places l.graph) l.trail) l.depth)
    (spec.number_of_end (g.G.NumberedGraph.places l.graph)) l.from l.fn.arms l.fn.walk
