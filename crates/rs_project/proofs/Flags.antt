-- Flags of nodes.
use Rattle.std.proofs.Common.{◌≡◌, ◌⊎◌, inl, inr, ℕ, zero, suc, ◌<◌, Bool, true, false, List, [], ◌∷◌, length, set, get_or, replicate, refl, sym, ap, ◌∙◌, arith}
use Rattle.std.proofs.lemmas.List.{get_or_default}
use Rattle.rs_project.specs.Marks.{IsOn, count_of_lowered}

pub on_within : (flags : List Bool) (n : ℕ) → IsOn flags n → n < length flags
on_within [] n h = absurd (cc (h))
on_within (b ∷ bs) zero h = omega arith
on_within (b ∷ bs) (suc n) h = let k = on_within bs n h in omega arith

pub on_decide : (flags : List Bool) (n : ℕ) → IsOn flags n ⊎ (IsOn flags n → ⊥)
on_decide flags n = go (get_or flags n false) refl
  where
    go : (b : Bool) → get_or flags n false ≡ b → IsOn flags n ⊎ (IsOn flags n → ⊥)
    go true e = inl e
    go false e = inr (λ h. cc (e, h))

pub none_on : (count n : ℕ) → IsOn (replicate count false) n → ⊥
none_on zero n h = cc (h)
none_on (suc count) zero h = cc (h)
none_on (suc count) (suc n) h = none_on count n h

pub set_on : (flags : List Bool) (x n : ℕ) → IsOn flags n → IsOn (set flags x true) n
set_on [] x n h = absurd (cc (h))
set_on (b ∷ bs) zero zero h = refl
set_on (b ∷ bs) zero (suc n) h = h
set_on (b ∷ bs) (suc x) zero h = h
set_on (b ∷ bs) (suc x) (suc n) h = set_on bs x n h

pub set_itself : (flags : List Bool) (x : ℕ) → x < length flags → IsOn (set flags x true) x
set_itself [] x h = let bad : ⊥ = omega arith in absurd bad
set_itself (b ∷ bs) zero h = refl
set_itself (b ∷ bs) (suc x) h = set_itself bs x (omega arith)

pub set_only : (flags : List Bool) (x n : ℕ) → IsOn (set flags x true) n → IsOn flags n ⊎ (x ≡ n)
set_only [] x n h = absurd (cc (h))
set_only (b ∷ bs) zero zero h = inr refl
set_only (b ∷ bs) zero (suc n) h = inl h
set_only (b ∷ bs) (suc x) zero h = inl h
set_only (b ∷ bs) (suc x) (suc n) h = elim (set_only bs x n h) [ inl k ↦ inl k | inr e ↦ inr (ap suc e) ]

pub set_unmarked : (flags : List Bool) (x : ℕ) → x < length flags → get_or flags x false ≡ false → suc (count_of_lowered (set flags x true)) ≡ count_of_lowered flags
set_unmarked [] x h e = let bad : ⊥ = omega arith in absurd bad
set_unmarked (true ∷ bs) zero h e = absurd (cc (e))
set_unmarked (false ∷ bs) zero h e = refl
set_unmarked (true ∷ bs) (suc x) h e = set_unmarked bs x (omega arith) e
set_unmarked (false ∷ bs) (suc x) h e = ap suc (set_unmarked bs x (omega arith) e)

-- what was read of a flag, by the default that it was read with
pub read_flag : (flags : List Bool) (n : ℕ) (b c : Bool) → n < length flags → b ≡ get_or flags n b → b ≡ c → get_or flags n false ≡ c
read_flag flags n b c h e k = get_or_default flags n false b h ∙ sym e ∙ k

pub all_on : (count n : ℕ) → n < count → IsOn (replicate count true) n
all_on zero n h = let bad : ⊥ = omega arith in absurd bad
all_on (suc count) zero h = refl
all_on (suc count) (suc n) h = all_on count n (omega arith)

pub off_flag : (flags : List Bool) (n : ℕ) → (IsOn flags n → ⊥) → get_or flags n false ≡ false
off_flag flags n h = go (get_or flags n false) refl
  where
    go : (b : Bool) → get_or flags n false ≡ b → get_or flags n false ≡ false
    go true e = absurd (h e)
    go false e = e
