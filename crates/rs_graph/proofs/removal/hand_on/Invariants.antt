use Rattle.std.proofs.Common.{◌≡◌, ◌≤◌, ◌+◌, ◌-◌, [], ℕ, length, slice_get, slice_index_or, Some, drop}
use Rattle.rs_graph.specs.Removing.{Going, Rest}
use Rattle.rs_graph.proofs.removal.hand_on.Given as goal

abbrev pub invariant-loop-m : goal.invariant-loop-m
invariant-loop-m g l = (l.nth ≤ length (slice_index_or l.graph.intos l.node [])) × (l.steps ≡ l.fn.steps + l.nth) × (slice_get l.order.items l.told ≡ Some l.node)
    × Going l.graph.outs l.lost.items l.current.items l.order.items (Rest l.told (drop l.nth (slice_index_or l.graph.intos l.node [])))
    × ((j x : ℕ) → slice_get l.fn.order.items j ≡ Some x → slice_get l.order.items j ≡ Some x)

abbrev pub decreases-loop-m : goal.decreases-loop-m
decreases-loop-m g l = length (slice_index_or l.graph.intos l.node []) - l.nth
