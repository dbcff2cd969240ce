use Rattle.std.proofs.Common.{◌≡◌, ℕ, ◌<◌, ◌≤◌}
use Rattle.rs_rings.specs.Rows.{row_at, either_row}
use Rattle.rs_rings.proofs.rows.Rows.join.Given as goal

abbrev pub invariant-loop-i : goal.invariant-loop-i
invariant-loop-i l = ((k : ℕ) → k < l.i → row_at l.self.items k ≡ either_row (row_at l.fn.self.items k) (row_at l.fn.other.items k))
    × ((k : ℕ) → l.i ≤ k → (row_at l.self.items k ≡ row_at l.fn.self.items k) × (row_at l.other.items k ≡ row_at l.fn.other.items k))
