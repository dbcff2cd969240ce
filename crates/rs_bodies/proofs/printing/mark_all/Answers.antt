use Rattle.std.proofs.Common.{◌∙◌}
use Rattle.rs_bodies.proofs.BackFlags.{marked_on}
use Rattle.rs_bodies.proofs.printing.mark_all.Goals as goal

pub loop-number-preserved : goal.loop-number-preserved
loop-number-preserved g c = rw (c.mark_place.ensures, c.place.ensures) (marked_on (g.G.NumberedGraph.places c.args.graph.now) c.loop-number.number c.loop-number.flags ∙ c.loop-number.invariant)
