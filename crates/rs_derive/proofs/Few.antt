-- Arms with different labels are few, since there are only so many labels.
use Rattle.std.proofs.Common.{◌≡◌, ◌⊎◌, ℕ, zero, suc, ◌+◌, ◌<◌, ◌≤◌, ◌^◌, List, [], ◌∷◌, length, map, take, Bool, true, false, eqb, Some, slice_get, inl, inr, ⊎_elim, sym, refl, ap, subst, ◌∙◌, arith}
use Rattle.std.proofs.lemmas.Bool.{cases_order, eqb-true, or_cases, false≢true}
use Rattle.std.proofs.lemmas.Map.Steps.{length-le_from_distinct_below}
use Rattle.std.proofs.lemmas.Option.{none-some}
use Rattle.std.specs.List.{IsDistinct, AllByRecursion, list_any}
use Rattle.rs_model.specs.declared.graph.Arm.{Arm}
use Rattle.rs_derive.proofs.Acts.{label_is}
use Rattle.rs_derive.specs.Within.{HasLabelsOnce}

abbrev number_of : Arm → ℕ
number_of a = a.label.0

not_true : (b : Bool) → (b ≡ true → ⊥) → b ≡ false
not_true true h = absurd (h refl)
not_true false h = refl

apart : (arms : List Arm) (a : Arm) → ((i : ℕ) (b : Arm) → slice_get arms i ≡ Some b → a.label ≡ b.label → ⊥)
    → AllByRecursion (λ y. eqb a.label.0 y ≡ false) (map number_of arms)
apart [] a h = tt
apart (b ∷ later) a h =
    (not_true (eqb a.label.0 b.label.0) (λ e. h zero b refl (label_is a.label b.label e)), apart later a (λ i c g. h (suc i) c g))

distinct : (arms : List Arm) → HasLabelsOnce arms → IsDistinct eqb (map number_of arms)
unfolding IsDistinct
distinct [] h = tt
distinct (a ∷ later) h = (
  apart later a (λ i b g e. let k : zero ≡ suc i = h zero (suc i) a b refl g e in absurd (omega arith)),
  distinct later (λ i j b c g k e. let n : suc i ≡ suc j = h (suc i) (suc j) b c g k e in omega arith),
)

get_taken : (n : ℕ) (arms : List Arm) (i : ℕ) (a : Arm) → slice_get (take n arms) i ≡ Some a → (slice_get arms i ≡ Some a) × (i < n)
get_taken zero arms i a g = absurd (none-some a g)
get_taken (suc n) [] i a g = absurd (none-some a g)
get_taken (suc n) (b ∷ arms) zero a g = (g, omega arith)
get_taken (suc n) (b ∷ arms) (suc i) a g = let r = get_taken n arms i a g in let k = r.1 in (r.0, omega arith)

place_of : (q : ℕ) (arms : List Arm) → list_any (eqb q) (map number_of arms) ≡ true → (i : ℕ) × (a : Arm) × (slice_get arms i ≡ Some a) × (q ≡ a.label.0)
place_of q [] e = absurd (false≢true e)
place_of q (a ∷ later) e =
    ⊎_elim (λ h. (zero, a, refl, eqb-true q a.label.0 h)) (λ h. let r = place_of q later h in (suc r.0, r.1, r.2, r.3))
    (or_cases (eqb q a.label.0) (list_any (eqb q) (map number_of later)) e)

-- the labels of the first n arms are numbers of 16 bits
abbrev pub AreLabels : List Arm → ℕ → Type 0
AreLabels arms n = (i : ℕ) (a : Arm) → i < n → slice_get arms i ≡ Some a → a.label.0 < 2 ^ 16

length_map : (arms : List Arm) → length (map number_of arms) ≡ length arms
length_map [] = refl
length_map (a ∷ arms) = ap suc (length_map arms)

length_taken : (n : ℕ) (arms : List Arm) → n ≤ length arms → length (take n arms) ≡ n
length_taken zero arms h = refl
length_taken (suc n) [] h = absurd (omega arith)
length_taken (suc n) (a ∷ arms) h = ap suc (length_taken n arms (omega arith))

pub few : (n : ℕ) (arms : List Arm) → HasLabelsOnce arms → n ≤ length arms → AreLabels arms n → n ≤ 2 ^ 16
few n arms once h labels =
    let once' : HasLabelsOnce (take n arms) = λ i j a b g k e. once i j a b (get_taken n arms i a g).0 (get_taken n arms j b k).0 e in
    let below : (q : ℕ) → list_any (eqb q) (map number_of (take n arms)) ≡ true → q < 2 ^ 16 =
    λ q e. (let r = place_of q (take n arms) e in
    let k = get_taken n arms r.0 r.1 r.2 in
    subst (λ x. x < 2 ^ 16) (sym r.3) (labels r.0 r.1 k.1 k.0)) in
    let m : length (map number_of (take n arms)) ≤ 2 ^ 16 = length-le_from_distinct_below (map number_of (take n arms)) (2 ^ 16) (distinct (take n arms) once') below in
    subst (λ x. x ≤ 2 ^ 16) (length_map (take n arms) ∙ length_taken n arms h) m

below_or_at : (i n : ℕ) → i < n + 1 → (i < n) ⊎ (i ≡ n)
below_or_at i n h = ⊎_elim (λ e. inr e) (λ w. ⊎_elim (λ k. inl k) (λ k. absurd (omega arith)) w) (cases_order i n)

pub one_more : (n : ℕ) (arms : List Arm) → AreLabels arms n → ((a : Arm) → slice_get arms n ≡ Some a → a.label.0 < 2 ^ 16) → AreLabels arms (n + 1)
one_more n arms labels h i b k e =
    ⊎_elim (λ w. labels i b w e) (λ w. h b (ap (λ x. slice_get arms x) (sym w) ∙ e)) (below_or_at i n k)
