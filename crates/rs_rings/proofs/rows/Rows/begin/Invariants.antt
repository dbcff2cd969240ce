use Rattle.std.proofs.Common.{◌≡◌, ℕ, ◌<◌, ◌≤◌, None, slice_get}
use Rattle.rs_rings.specs.Rows.{row_at, row_at_start}
use Rattle.rs_rings.proofs.rows.Rows.begin.Given as goal

abbrev pub invariant-loop-i : goal.invariant-loop-i
invariant-loop-i l = ((k : ℕ) → k < l.i → row_at l.rows.items k ≡ row_at_start (slice_get l.fn.machines k)) × ((k : ℕ) → l.i ≤ k → row_at l.rows.items k ≡ None)
