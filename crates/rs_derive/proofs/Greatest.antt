-- The greatest number of a list.
use Rattle.std.proofs.Common.{◌≡◌, ◌⊎◌, ℕ, zero, suc, ◌≤◌, List, [], ◌∷◌, Some, slice_get, length, drop, map, inl, inr, ⊎_elim, max, sym, refl, ap, subst, ◌∙◌, arith}
use Rattle.std.proofs.Math.Nat.{le-max_left, le-max_right, max-eq_left, max-eq_right}
use Rattle.std.proofs.lemmas.Bool.{cases_order}
use Rattle.std.proofs.lemmas.Option.{none-some, same_Some}
use Rattle.std.proofs.lemmas.List.{drop_all}
use Rattle.rs_derive.specs.Figures.{IsGreatest, greatest}

at_least : (xs : List ℕ) (m : ℕ) → m ≤ greatest xs m
at_least [] m = omega arith
at_least (x ∷ xs) m = let a = le-max_left m x in let b = at_least xs (max m x) in omega arith

most : (xs : List ℕ) (m i x : ℕ) → slice_get xs i ≡ Some x → x ≤ greatest xs m
most [] m i x g = absurd (none-some x g)
most (y ∷ xs) m zero x g =
    let a = le-max_right m y in
    let b = at_least xs (max m y) in
    let e : y ≡ x = same_Some y x g in
    omega arith
most (y ∷ xs) m (suc i) x g = most xs (max m y) i x g

max_is : (m x : ℕ) → (max m x ≡ m) ⊎ (max m x ≡ x)
max_is m x =
    ⊎_elim (λ e. inl (max-eq_left (omega arith)))
    (λ h. ⊎_elim (λ k. inr (max-eq_right (omega arith))) (λ k. inl (max-eq_left (omega arith))) h) (cases_order m x)

here : (xs : List ℕ) (m : ℕ) → (greatest xs m ≡ m) ⊎ ((i : ℕ) × (slice_get xs i ≡ Some (greatest xs m)))
here [] m = inl refl
here (x ∷ xs) m =
    ⊎_elim
    (λ e.
    ⊎_elim (λ k. inl (e ∙ k)) (λ k. inr (zero, ap Some (sym (e ∙ k)))) (max_is m x))
    (λ r. inr (suc r.0, r.1)) (here xs (max m x))

pub is : (xs : List ℕ) → IsGreatest xs (greatest xs 0)
is [] = record { most = λ i x g. absurd (none-some x g); among = inl (refl, refl) }
is (x ∷ xs) =
    let z : max 0 x ≡ x = max-eq_right (omega arith) in
    record {
      most = most (x ∷ xs) 0;
      among = inr (⊎_elim (λ e. (zero, ap Some (sym (e ∙ z)))) (λ r. (suc r.0, r.1)) (here xs (max 0 x)));
    }

pub at_end : {A : Type 0} (f : A → ℕ) (xs : List A) (n m : ℕ) → greatest (map f (drop n xs)) m ≡ greatest (map f xs) 0 → length xs ≤ n → IsGreatest (map f xs) m
at_end f xs n m e h =
    subst (λ k. IsGreatest (map f xs) k) (sym e ∙ ap (λ ys. greatest (map f ys) m) (drop_all n xs h)) (is (map f xs))
