-- A place that is set to what stands there.
use Rattle.std.proofs.Common.{◌≡◌, ℕ, zero, suc, List, [], ◌∷◌, Some, slice_get, slice_set, sym, ap}

module _ {A : Type 0} where
  some_is : (x y : A) → Some x ≡ Some y → x ≡ y
  some_is x y e = cc (e)

  pub set_same : (xs : List A) (i : ℕ) (x : A) → slice_get xs i ≡ Some x → slice_set xs i x ≡ xs
  set_same [] i x is = absurd (cc (is))
  set_same (y ∷ xs) zero x is = ap (λ (z : A). z ∷ xs) (some_is x y (sym is))
  set_same (y ∷ xs) (suc i) x is = ap (λ (zs : List A). y ∷ zs) (set_same xs i x is)

  pub set_back : (xs : List A) (i : ℕ) (x y : A) → slice_get xs i ≡ Some x → slice_set (slice_set xs i y) i x ≡ xs
  set_back [] i x y is = absurd (cc (is))
  set_back (z ∷ xs) zero x y is = set_same (z ∷ xs) zero x is
  set_back (z ∷ xs) (suc i) x y is = ap (λ (zs : List A). z ∷ zs) (set_back xs i x y is)
