use Rattle.std.proofs.Common.{◌≡◌, ◌≤◌, ◌+◌, ◌-◌, ℕ, length, take}
use Rattle.std.specs.List.{sum_by}
use Rattle.rs_graph.specs.Removal.{cost_of}
use Rattle.rs_graph.specs.Removing.{Going, From}
use Rattle.rs_graph.proofs.removal.remove.Given as goal

abbrev pub invariant-loop-told : goal.invariant-loop-told
invariant-loop-told g l = Going l.graph.outs l.lost.items l.current.items l.order.items (From l.told) × (l.told ≤ length l.order.items) × (length l.order.items ≤ length l.graph.outs)
    × (l.steps ≡ l.fn.steps + sum_by (λ (n : ℕ). cost_of l.graph.intos n) (take l.told l.order.items))

abbrev pub decreases-loop-told : goal.decreases-loop-told
decreases-loop-told g l = length l.graph.outs - l.told
