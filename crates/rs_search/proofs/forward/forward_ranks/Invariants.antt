use Rattle.std.proofs.Common.{◌≡◌, ◌≤◌, length}
use Rattle.rs_search.specs.Forward.{AreForward}
use Rattle.rs_search.proofs.forward.forward_ranks.Given as goal

abbrev pub invariant-loop-number : goal.invariant-loop-number
invariant-loop-number l = AreForward l.keeps l.table.rows l.table.ranks l.number × (l.number ≤ length l.table.rows) × (l.table.rows ≡ l.fn.table.rows) × (l.table.spots ≡ l.fn.table.spots)

abbrev pub decreases-loop-number : goal.decreases-loop-number
decreases-loop-number l = l.number
