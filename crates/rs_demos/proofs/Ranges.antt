-- Numbers in a row.
use Rattle.std.proofs.Common.{◌≡◌, inl, inr, ℕ, zero, suc, ◌+◌, ◌-◌, ◌/◌, ◌%◌, ◌<◌, ◌≤◌, ◌==◌, Bool, true, false, List, ◌∷◌, ◌++◌, map, slice_get, Some, sym, ap, subst, ◌∙◌, append_assoc, arith}
use Rattle.std.proofs.Math.Nat.{div-eq_of_lt}
use Rattle.std.proofs.lemmas.Bool.{and_parts, false≢true}
use Rattle.std.proofs.lemmas.Bool.Decides.{leb_tells}
use Rattle.std.specs.List.{list_all, range_with_len}

pub range_step : (i n : ℕ) → i < n → range_with_len i (n - i) ≡ i ∷ range_with_len (i + 1) (n - (i + 1))
range_step i n h = let e : n - i ≡ suc (n - (i + 1)) = omega arith in ap (λ (k : ℕ). range_with_len i k) e

-- what stands at a place of a list that is made of numbers in a row
pub mapped_at : {X : Type 0} (f : ℕ → X) (many a i : ℕ) → i < many → slice_get (map f (range_with_len a many)) i ≡ Some (f (a + i))
mapped_at f zero a i h = absurd (omega arith)
mapped_at f (suc many) a zero h = let e : a ≡ a + 0 = omega arith in ap (λ (z : ℕ). Some (f z)) e
mapped_at f (suc many) a (suc i) h = let e : (a + 1) + i ≡ a + suc i = omega arith in mapped_at f many (a + 1) i (omega arith) ∙ ap (λ (z : ℕ). Some (f z)) e

-- what holds of numbers in a row holds of each
pub in_range : (p : ℕ → Bool) (many a i : ℕ) → list_all p (range_with_len a many) ≡ true → i < many → p (a + i) ≡ true
in_range p zero a i h lt = absurd (omega arith)
in_range p (suc many) a zero h lt =
    let e : a ≡ a + 0 = omega arith in
    let P : ℕ → Type 0 = λ z. p z ≡ true in
    subst P e (and_parts (p a) (list_all p (range_with_len (a + 1) many)) h).0
in_range p (suc many) a (suc i) h lt =
    let e : (a + 1) + i ≡ a + suc i = omega arith in
    let P : ℕ → Type 0 = λ z. p z ≡ true in
    subst P e (in_range p many (a + 1) i (and_parts (p a) (list_all p (range_with_len (a + 1) many)) h).1 (omega arith))

pub within : (p : ℕ → Bool) (low many n : ℕ) → list_all p (range_with_len low many) ≡ true → low ≤ n → n < low + many → p n ≡ true
within p low many n h least most =
    let e : low + (n - low) ≡ n = omega arith in
    let P : ℕ → Type 0 = λ z. p z ≡ true in
    subst P e (in_range p many low (n - low) h (omega arith))

-- a loop over numbers in a row that writes f of each
pub one_more : {X : Type 0} (F : List ℕ → List X) (f : ℕ → List X) → ((i : ℕ) (xs : List ℕ) → F (i ∷ xs) ≡ f i ++ F xs)
    → (i n : ℕ) (text more : List X) → {whole : List X} → i < n → more ≡ text ++ f i → text ++ F (range_with_len i (n - i)) ≡ whole
    → more ++ F (range_with_len (i + 1) (n - (i + 1))) ≡ whole
one_more {X = X} F f law i n text more h e inv =
    ap (λ (z : List X). z ++ F (range_with_len (i + 1) (n - (i + 1)))) e
    ∙ append_assoc text (f i) (F (range_with_len (i + 1) (n - (i + 1))))
    ∙ ap (λ (z : List X). text ++ z) (sym (law i (range_with_len (i + 1) (n - (i + 1)))))
    ∙ ap (λ (z : List ℕ). text ++ F z) (sym (range_step i n h)) ∙ inv

-- a number with the bit set is not below the bit
pub not_clear : (step i : ℕ) → ((i / step) % 2 == 0) ≡ false → step ≤ i
not_clear step i h = elim (leb_tells step i) [
  | inl t ↦ t.1
  | inr t ↦ (let lt : i < step = (let k = t.1 in omega arith) in
      let z : i / step ≡ 0 = div-eq_of_lt lt in
      let e : ((i / step) % 2 == 0) ≡ true = ap (λ (x : ℕ). x % 2 == 0) z in
      absurd (false≢true (sym h ∙ e)))
]
