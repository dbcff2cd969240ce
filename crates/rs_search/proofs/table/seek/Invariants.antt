use Rattle.std.proofs.Common.{◌≡◌, ℕ, ◌≤◌, Some, length, slice_get}
use Rattle.rs_derive.specs.Targets.{target_spot}
use Rattle.rs_model.specs.Chains.{IsChained}
use Rattle.rs_search.specs.Table.{links_of, spots_of}
use Rattle.rs_search.proofs.table.seek.Given as goal

abbrev pub invariant-loop-left : goal.invariant-loop-left
invariant-loop-left l =
    (l.left ≤ length l.nodes) × ((n : ℕ) → IsChained (links_of l.entries) l.head n → slice_get (spots_of l.nodes) n ≡ Some (target_spot l.pending l.target) → IsChained (links_of l.entries) l.left n)

abbrev pub decreases-loop-left : goal.decreases-loop-left
decreases-loop-left l = l.left
