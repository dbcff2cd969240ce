-- Lists of views by number, sums over them, and sums over roles.
use Rattle.std.proofs.Common.{◌≡◌, ◌≢◌, ◌⊎◌, ℕ, zero, suc, ◌+◌, ◌*◌, ◌<◌, ◌≤◌, if◌then◌else◌, ◌==◌, List, [], ◌∷◌, sum_by, set, refl, sym, ap, ◌∙◌, inl, inr, ⊎_elim, arith}
use Rattle.std.proofs.lemmas.Bool.Decides.{eqb_tells}
use Rattle.std.proofs.lemmas.List.Sums.{sum_by-cons}
use mathlib.Core.Option.{some, some-injective, some-ne-none}
use native.Mathlib.Decide.{ℕ_discrete}
use mathlib.Core.Logic.{dite}
use lib.ListN.{get_elem?}
use Rattle.rs_pool.specs.Rule.{sum_over_roles, IsAmount}

abbrev pub at_put : {A : Type 0} → (ℕ → A) → ℕ → A → ℕ → A
at_put f p v k = if k == p then v else f k

pub put_case : {A : Type 0} (f : ℕ → A) (p : ℕ) (v : A) (k : ℕ) (F : A → Type 0) → (k ≡ p → F v) → (k ≢ p → F (f k)) → F (at_put f p v k)
put_case f p v k F here other = elim (eqb_tells k p) [ inl h ↦ rw h.0 (here h.1) | inr h ↦ rw h.0 (other h.1) ]

module _ {A : Type 0} (f : A → ℕ) where
  -- one member changes, and the sum with it
  pub sum_set : (xs : List A) (i : ℕ) (x y : A) → get_elem? xs i ≡ some x → sum_by f (set xs i y) + f x ≡ sum_by f xs + f y
  sum_set [] i x y at = absurd (some-ne-none x (sym at))
  sum_set (z ∷ zs) zero x y at = let e : f z ≡ f x = ap f (some-injective z x at) in let a = sum_by-cons f y zs in let b = sum_by-cons f z zs in omega arith
  sum_set (z ∷ zs) (suc i) x y at = let h = sum_set zs i x y at in let a = sum_by-cons f z (set zs i y) in let b = sum_by-cons f z zs in omega arith

  pub one_le : (xs : List A) (i : ℕ) (x : A) → get_elem? xs i ≡ some x → f x ≤ sum_by f xs
  one_le [] i x at = absurd (some-ne-none x (sym at))
  one_le (z ∷ zs) zero x at = let e : f z ≡ f x = ap f (some-injective z x at) in let b = sum_by-cons f z zs in omega arith
  one_le (z ∷ zs) (suc i) x at = let h = one_le zs i x at in let b = sum_by-cons f z zs in omega arith

  -- two members have their place in the sum
  pub two_le : (xs : List A) (i j : ℕ) (x y : A) → i ≢ j → get_elem? xs i ≡ some x → get_elem? xs j ≡ some y → f x + f y ≤ sum_by f xs
  two_le [] i j x y ne at at' = absurd (some-ne-none x (sym at))
  two_le (z ∷ zs) zero zero x y ne at at' = absurd (ne refl)
  two_le (z ∷ zs) zero (suc j) x y ne at at' = let e : f z ≡ f x = ap f (some-injective z x at) in let h = one_le zs j y at' in let b = sum_by-cons f z zs in omega arith
  two_le (z ∷ zs) (suc i) zero x y ne at at' = let e : f z ≡ f y = ap f (some-injective z y at') in let h = one_le zs i x at in let b = sum_by-cons f z zs in omega arith
  two_le (z ∷ zs) (suc i) (suc j) x y ne at at' = let h = two_le zs i j x y (λ e. ne (ap suc e)) at at' in let b = sum_by-cons f z zs in omega arith

pub total_same : (f g : ℕ → ℕ) (n : ℕ) → ((r : ℕ) → r < n → f r ≡ g r) → sum_over_roles f n ≡ sum_over_roles g n
total_same f g zero h = refl
total_same f g (suc n) h = let e = h n (omega arith) in let r = total_same f g n (λ r l. h r (omega arith)) in omega arith

-- one role's number changes
pub total_put : (f : ℕ → ℕ) (r a n : ℕ) → r < n → sum_over_roles (at_put f r a) n + f r ≡ sum_over_roles f n + a
total_put f r a zero l = absurd (omega arith)
total_put f r a (suc n) l = dite (ℕ_discrete n r)
    (λ is. let here : at_put f r a n ≡ a = put_case f r a n (λ z. z ≡ a) (λ _. refl) (λ no. absurd (no is)) in
    let same : sum_over_roles (at_put f r a) n ≡ sum_over_roles f n = total_same (at_put f r a) f n (λ k b. put_case f r a k (λ z. z ≡ f k) (λ e. absurd (omega arith)) (λ _. refl)) in
    let e : f n ≡ f r = ap f is in omega arith)
    (λ ne. let there : at_put f r a n ≡ f n = put_case f r a n (λ z. z ≡ f n) (λ e. absurd (ne e)) (λ _. refl) in let h = total_put f r a n (omega arith) in omega arith)

pub amount_le : (a : ℕ) → IsAmount a → a ≤ 16
amount_le a is = ⊎_elim (λ e. omega arith) (λ t. ⊎_elim (λ e. omega arith) (λ e. omega arith) t) is

pub total_le : (f : ℕ → ℕ) (n : ℕ) → ((r : ℕ) → r < n → IsAmount (f r)) → sum_over_roles f n ≤ 16 * n
total_le f zero h = omega arith
total_le f (suc n) h = let a = amount_le (f n) (h n (omega arith)) in let r = total_le f n (λ k l. h k (omega arith)) in omega arith

-- where the sum is at least the number of roles, all have ended or some stopped
pub all_or_some : (f : ℕ → ℕ) (n : ℕ) → ((r : ℕ) → r < n → IsAmount (f r)) → n ≤ sum_over_roles f n → ((r : ℕ) → r < n → f r ≡ 1) ⊎ ((r : ℕ) × (r < n) × (f r ≡ 16))
all_or_some f zero h le = inl (λ r l. absurd (omega arith))
all_or_some f (suc n) h le = ⊎_elim
    (λ no. ⊎_elim (λ all. let s = ones_total f n all in absurd (omega arith)) (λ t. inr (t.0, omega arith, t.2)) (all_or_less f n (λ k l. h k (omega arith)) (omega arith)))
    (λ t. ⊎_elim
    (λ one. ⊎_elim (λ all. inl (λ r l. dite (ℕ_discrete r n) (λ is. ap f is ∙ one) (λ ne. all r (omega arith)))) (λ t'. let b = t'.1 in inr (t'.0, omega arith, t'.2))
    (all_or_some f n (λ k l. h k (omega arith)) (omega arith)))
    (λ more. inr (n, omega arith, more)) t)
    (h n (omega arith))
  where
    ones_total : (g : ℕ → ℕ) (k : ℕ) → ((r : ℕ) → r < k → g r ≤ 1) → sum_over_roles g k ≤ k
    ones_total g zero all = omega arith
    ones_total g (suc k) all = let a = all k (omega arith) in let r = ones_total g k (λ r l. all r (omega arith)) in omega arith

    all_or_less : (g : ℕ → ℕ) (k : ℕ) → ((r : ℕ) → r < k → IsAmount (g r)) → k < sum_over_roles g k → ((r : ℕ) → r < k → g r ≤ 1) ⊎ ((r : ℕ) × (r < k) × (g r ≡ 16))
    all_or_less g zero is lt = absurd (omega arith)
    all_or_less g (suc k) is lt = ⊎_elim
        (λ no. ⊎_elim (λ all. let s = ones_total g k all in absurd (omega arith)) (λ t. let b = t.1 in inr (t.0, omega arith, t.2)) (all_or_less g k (λ r l. is r (omega arith)) (omega arith)))
        (λ t. ⊎_elim (λ one. ⊎_elim (λ all. let s = ones_total g k all in absurd (omega arith)) (λ t'. let b = t'.1 in inr (t'.0, omega arith, t'.2))
        (all_or_less g k (λ r l. is r (omega arith)) (omega arith)))
        (λ more. inr (k, omega arith, more)) t)
        (is k (omega arith))
