use Rattle.std.proofs.Common.{◌+◌, List, drop, ap, ◌∙◌, arith}
use Rattle.rs_bodies.specs.declared.places.Place.{Place}
use Rattle.rs_bodies.specs.Shapes.{there_reached, reaches_behind_places}
use Rattle.rs_bodies.proofs.Reaches.{reached_step}
use Rattle.rs_bodies.proofs.shapes.reaches.Goals as goal

pub loop-number-preserved : goal.loop-number-preserved
loop-number-preserved g c =
    let places : List Place = g.G.NumberedGraph.places c.args.graph.now in
    ap (λ z. reaches_behind_places (c.loop-number.number + 1) (drop (c.loop-number.number + 1) places) z)
    (c.mark_place.ensures ∙ ap (λ z. there_reached c.loop-number.number z c.loop-number.reaches) c.place.ensures)
    ∙ reached_step places c.loop-number.number (c.loop-number.number + 1) c.loop-number.reaches (omega arith) ∙ c.loop-number.invariant
