use Rattle.rs_explain.proofs.Charts.{IsOnWay}
use Rattle.rs_explain.proofs.walking.walk.Given as goal

abbrev pub invariant-loop-left : goal.invariant-loop-left
invariant-loop-left l = IsOnWay l.table.spots (λ n. 0) l.table.rows l.far 0 l.steps.items l.node l.left

abbrev pub decreases-loop-left : goal.decreases-loop-left
decreases-loop-left l = l.left
