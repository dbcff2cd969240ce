use Rattle.std.proofs.Common.{◌≤◌, ◌+◌, ℕ, subst}
use Rattle.rs_model.specs.declared.limits.TheConstants.{MOST_TALKS}
use Rattle.rs_bodies.proofs.Reaches.{trail_is}
use Rattle.rs_bodies.proofs.shapes.is_walked.Goals as goal

pub walks-requires : goal.walks-requires
walks-requires g c =
    trail_is (g.G.NumberedGraph.places c.args.graph.now) (record { dialect = c.args.dialect; roles = c.args.roles; last = c.number_of_end-last.result; reaches = c.reaches.result })
    (subst (λ (z : ℕ). z ≤ MOST_TALKS + 1) c.size.ensures c.if-size-gt-MOST_PLACES.false) c.number_of_end-last.ensures.number c.reaches.ensures
