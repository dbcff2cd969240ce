use Rattle.std.proofs.Common.{◌≡◌, ◌<◌, ℕ, slice_get, Some}
use Rattle.rs_explain.specs.Distances.{far_at}
use Rattle.rs_explain.proofs.walking.first_at.Given as goal

abbrev pub invariant-loop-place : goal.invariant-loop-place
invariant-loop-place l = (i k : ℕ) → i < l.place → slice_get l.row i ≡ Some k → far_at l.far k ≡ Some l.distance → ⊥
