use Rattle.rs_walk_texts.proofs.Toward.{AreFoundFrom}
use Rattle.rs_walk_texts.proofs.walks.talks_along.Given as goal

abbrev pub invariant-loop-left : goal.invariant-loop-left
invariant-loop-left l = AreFoundFrom l.source l.first l.steps l.left l.talks.items l.next

abbrev pub decreases-loop-left : goal.decreases-loop-left
decreases-loop-left l = l.left
