-- Public: the greatest values of a derivation.
use Rattle.std.specs.Prelude.{◌≡◌, ◌⊎◌, ℕ, ◌≤◌, List, [], ◌∷◌, slice_get, Some, max}

-- the number is the greatest of the list, and 0 for no numbers
pub record IsGreatest (xs : List ℕ) (m : ℕ) : Type 0 where
  pub most : (i x : ℕ) → slice_get xs i ≡ Some x → x ≤ m
  pub among : ((xs ≡ []) × (m ≡ 0)) ⊎ ((i : ℕ) × (slice_get xs i ≡ Some m))

-- the greatest of the number and the list, as the code finds it
abbrev pub greatest : List ℕ → ℕ → ℕ
greatest [] m = m
greatest (x ∷ later) m = greatest later (max m x)
