-- What was said along a path, the last talk first, and each role's items of it.
use Rattle.std.proofs.Common.{◌≡◌, ◌≢◌, inl, inr, ℕ, ◌<◌, ◌≤◌, true, false, List, [], ◌∷◌, ◌++◌, length, refl, sym, ap₂, ◌∙◌, subst, ◌==◌}
use Rattle.std.proofs.lemmas.Bool.Decides.{eqb_tells}
use Rattle.std.proofs.lemmas.Map.Steps.{length-le_from_distinct_below}
use Rattle.std.specs.List.{list_any, AllByRecursion, IsDistinct}
use Rattle.rs_core.proofs.Items.{Item, Entry, sends, recvs, sends_append, recvs_append, eq_other}
use Rattle.rs_core.proofs.Parts.{StraightTalk, own, own_agrees}
use Rattle.rs_safety.proofs.Members.{Among}

-- p's items, in the order of the talks; the trail has the last talk first
abbrev pub canon : ℕ → List StraightTalk → List Item
canon p [] = []
canon p (s ∷ older) = canon p older ++ own p (length older) s

-- what a sends to b, b takes from a, in the same order
pub lines_agree : (a b : ℕ) → a ≢ b → (trail : List StraightTalk) → sends b (canon a trail) ≡ recvs a (canon b trail)
lines_agree a b ne [] = refl
lines_agree a b ne (s ∷ older) =
    sends_append b (canon a older) (own a (length older) s)
    ∙ ap₂ (λ (x y : List Entry). x ++ y) (lines_agree a b ne older) (own_agrees a b (length older) s ne)
    ∙ sym (recvs_append a (canon b older) (own b (length older) s))

-- no number twice
abbrev pub Fresh : List ℕ → Type 0
Fresh [] = Unit {0}
Fresh (x ∷ xs) = (Among xs x → ⊥) × Fresh xs

abbrev pub AllBelow : ℕ → List ℕ → Type 0
AllBelow n [] = Unit {0}
AllBelow n (x ∷ xs) = (x < n) × AllBelow n xs

others_differ : (x : ℕ) (xs : List ℕ) → (Among xs x → ⊥) → AllByRecursion (λ y. (x == y) ≡ false) xs
others_differ x [] n = tt
others_differ x (y ∷ ys) n = (eq_other x y (λ e. n (inl (sym e))), others_differ x ys (λ h. n (inr h)))

distinct : (xs : List ℕ) → Fresh xs → IsDistinct (λ x y. x == y) xs
unfolding IsDistinct
distinct [] h = tt
distinct (x ∷ xs) h = (others_differ x xs h.0, distinct xs h.1)

any_below : (n : ℕ) (xs : List ℕ) → AllBelow n xs → (q : ℕ) → list_any (λ y. q == y) xs ≡ true → q < n
any_below n [] h q e = absurd (cc (e))
any_below n (x ∷ xs) h q e = elim (eqb_tells q x) [
  | inl t ↦ (let P : ℕ → Type 0 = λ z. z < n in subst P (sym t.1) h.0)
  | inr t ↦ any_below n xs h.1 q (let e' : list_any (λ y. q == y) xs ≡ true = rw t.0 at e in e')
]

-- numbers below n, none twice, are at most n
pub pigeonhole : (n : ℕ) (xs : List ℕ) → Fresh xs → AllBelow n xs → length xs ≤ n
pigeonhole n xs f b = length-le_from_distinct_below xs n (distinct xs f) (any_below n xs b)
