use Rattle.std.proofs.Common.{◌≡◌, ◌≤◌, ℕ, Some, length, map, slice_get}
use Rattle.rs_model.specs.Chains.{IsChained}
use Rattle.rs_derivations.proofs.lists.number_along.Given as goal

-- where the list stands in the chain, it stands in what is left of it
abbrev pub invariant-loop-left : goal.invariant-loop-left
invariant-loop-left l = record {
  within : l.left ≤ length l.lists;
  left : (n : ℕ) → IsChained l.links l.head n → slice_get (map (λ x. x.now) l.lists) n ≡ Some l.acts → IsChained l.links l.left n;
}

abbrev pub decreases-loop-left : goal.decreases-loop-left
decreases-loop-left l = l.left
