use Rattle.std.proofs.Common.{◌≡◌, take, map}
use Rattle.rs_bodies.specs.Drafts.{point_of_draft}
use Rattle.rs_bodies.proofs.points.points.Given as goal

abbrev pub invariant-loop-draft : goal.invariant-loop-draft
invariant-loop-draft l = l.points.items ≡ map (point_of_draft l.last) (take l.draft-index l.drafts)
