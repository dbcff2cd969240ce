use Rattle.std.proofs.Common.{◌≡◌, ℕ, ◌≤◌, Some, length, slice_get}
use Rattle.rs_model.specs.Chains.{IsChained}
use Rattle.rs_project.proofs.filing.number_along.Given as goal

abbrev pub invariant-loop-left : goal.invariant-loop-left
invariant-loop-left l = (l.left ≤ length l.fronts) × ((n : ℕ) → IsChained l.links l.head n → slice_get l.fronts n ≡ Some l.front → IsChained l.links l.left n)

abbrev pub decreases-loop-left : goal.decreases-loop-left
decreases-loop-left l = l.left
