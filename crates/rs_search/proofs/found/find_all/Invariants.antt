use Rattle.std.proofs.Common.{◌≤◌, ◌-◌, length}
use Rattle.rs_search.specs.FoundSoFar.{AreFoundSoFar}
use Rattle.rs_search.proofs.found.find_all.Given as goal

abbrev pub invariant-loop-alloc : goal.invariant-loop-alloc
invariant-loop-alloc l = AreFoundSoFar l.sub l.above l.bound l.found × (length l.found.table.spots ≤ l.limit)

abbrev pub decreases-loop-alloc : goal.decreases-loop-alloc
decreases-loop-alloc l = l.limit - length l.found.table.rows
