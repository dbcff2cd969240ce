-- Items of lists.
use Rattle.std.proofs.Common.{◌≡◌, ◌⊎◌, inl, inr, ℕ, zero, suc, ◌<◌, List, [], ◌∷◌, ◌++◌, length, Some, slice_get, get_or, replicate, refl, ap, arith}
use Rattle.std.proofs.lemmas.Option.{none-some, same_Some}

-- there is an item at each place
pub item_at : {A : Type 0} (xs : List A) (k : ℕ) → k < length xs → (x : A) × (slice_get xs k ≡ Some x)
item_at [] k within = absurd (omega arith)
item_at (x ∷ xs) zero within = (x, refl)
item_at (x ∷ xs) (suc k) within = item_at xs k (omega arith)

-- among zeros, and behind them, stands zero
pub zero_at : (k n : ℕ) → get_or (replicate {A = ℕ} k 0) n 0 ≡ 0
zero_at zero zero = refl
zero_at zero (suc n) = refl
zero_at (suc k) zero = refl
zero_at (suc k) (suc n) = zero_at k n

-- what stands in a list stands there with one more behind it
pub kept_at : {A : Type 0} (xs : List A) (y : A) (i : ℕ) (x : A) → slice_get xs i ≡ Some x → slice_get (xs ++ (y ∷ [])) i ≡ Some x
kept_at [] y i x e = absurd (none-some x e)
kept_at (z ∷ xs) y zero x e = e
kept_at (z ∷ xs) y (suc i) x e = kept_at xs y i x e

-- that one stands at the end
pub new_at : {A : Type 0} (xs : List A) (y : A) → slice_get (xs ++ (y ∷ [])) (length xs) ≡ Some y
new_at [] y = refl
new_at (z ∷ xs) y = new_at xs y

-- and nothing else stands there
pub either_at : {A : Type 0} (xs : List A) (y : A) (i : ℕ) (x : A) → slice_get (xs ++ (y ∷ [])) i ≡ Some x → (slice_get xs i ≡ Some x) ⊎ ((i ≡ length xs) × (y ≡ x))
either_at [] y zero x e = inr (refl, same_Some y x e)
either_at [] y (suc i) x e = absurd (none-some x e)
either_at (z ∷ xs) y zero x e = inl e
either_at (z ∷ xs) y (suc i) x e = elim (either_at xs y i x e) [ inl a ↦ inl a | inr a ↦ inr (ap suc a.0, a.1) ]
