use Rattle.std.proofs.Common.{◌+◌, List, ap, sym, ◌∙◌, arith}
use Rattle.rs_bodies.specs.declared.places.Place.{Place}
use Rattle.rs_bodies.specs.declared.shapes.Trail.{Trail}
use Rattle.rs_bodies.specs.declared.shapes.HeadsMet.{HeadsMet}
use Rattle.rs_bodies.proofs.Reaches.{nested_is, point_goes, begun_is}
use Rattle.rs_bodies.proofs.shapes.+walking.Goals as goal

pub walk_behind_point-returns : goal.walk_behind_point-returns
walk_behind_point-returns g t c =
    let places : List Place = g.G.NumberedGraph.places c.args.graph.now in
    let trail : Trail = c.args.trail.now in
    let w : HeadsMet = c.args.walk in
    point_goes places trail c.args.fuel c.args.depth c.args.n c.nesting_within-inner.result (c.args.n + 1) c.point.inside.arms.now w
    (record w { count = w.count + 1 }) c.in_ok-walk.walk c.args.point.now c.walk_where_closed.result c.requires.trail c.requires.present (ap (λ z. z.arms) c.point.view_is) (omega arith)
    (begun_is w (w.count + 1) (omega arith))
    (c.nesting_within-inner.ensures ∙ nested_is places trail c.args.depth c.args.n c.point.inside.arms.now c.requires.trail c.requires.present)
    (sym c.if-not-is_fit.ensures) c.in_ok-walk.ensures c.walk_where_closed.ensures
