use Rattle.std.proofs.Common.{◌≡◌, ◌<◌, ℕ, Some, slice_get}
use Rattle.rs_core.specs.Choosable.{label_of}
use Rattle.rs_endpoints.proofs.acts.place_of.Given as goal

abbrev pub invariant-loop-place : goal.invariant-loop-place
invariant-loop-place l = (place : ℕ) → place < l.place → label_of (slice_get l.arms place) ≡ Some l.label → ⊥
