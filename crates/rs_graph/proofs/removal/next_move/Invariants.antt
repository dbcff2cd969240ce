use Rattle.std.proofs.Common.{length, ◌-◌, ◌≡◌, ◌<◌, ◌≤◌, ℕ, get_or, true, false}
use Rattle.rs_graph.proofs.removal.next_move.Given as goal

abbrev pub invariant-loop-next : goal.invariant-loop-next
invariant-loop-next l = (l.start ≤ l.next) × (l.next ≤ length l.flags) × ((k : ℕ) → l.start ≤ k → k < l.next → get_or l.flags k false ≡ true)

abbrev pub decreases-loop-next : goal.decreases-loop-next
decreases-loop-next l = length l.flags - l.next
