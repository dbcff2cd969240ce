use Rattle.std.proofs.Common.{◌≡◌, ◌≢◌, ◌<◌, ◌^◌, ℕ, Some, slice_get}
use Rattle.rs_model.specs.declared.graph.Arm.{Arm}
use Rattle.rs_core.proofs.arm_places.place_by_label.Given as goal

abbrev pub invariant-loop-place : goal.invariant-loop-place
invariant-loop-place l = record {
  others : (k : ℕ) (a : Arm) → k < l.place → slice_get l.arms k ≡ Some a → a.label ≢ l.label;
  small : (k : ℕ) (a : Arm) → k < l.place → slice_get l.arms k ≡ Some a → a.label.0 < 2 ^ 16;
}
