-- The work on the states goes one way only.
use Rattle.std.proofs.Common.{◌≡◌, inl, inr, ℕ, zero, suc, ◌+◌, ◌<◌, ◌≤◌, List, [], ◌∷◌, ◌++◌, length, Option, Some, slice_get, refl, sym, ap, ap₂, ◌∙◌, subst, arith}
use Rattle.std.proofs.lemmas.Bool.{cases_lt}
use Rattle.rs_model.specs.Data.{Protocol_data}
use Rattle.rs_model.specs.declared.graph.Role.{Role}
use Rattle.rs_project.specs.Data.{Front_data}
use Rattle.rs_graph.specs.Order.{Once, Numbered, NoMore, Known, New, Worked, Next}
use Rattle.rs_project.specs.Projection.{LabelChoice, merged_choices, MeetsBehind, EndsBehind}
use Rattle.rs_project.specs.Refusals.{Merges, AreBehind, FirstClash, OfTalks, OfTheEnd}
use Rattle.rs_project.proofs.Lists.{contains, at_among}
use Rattle.rs_project.proofs.Numbers.{same_front}

-- both lists have the same fronts at the first n places
abbrev pub Same : List Front_data → List Front_data → ℕ → Type 0
Same fs gs known = (i : ℕ) → i < known → (f : Front_data) × (slice_get fs i ≡ Some f) × (slice_get gs i ≡ Some f)

pub same_numbers : (pr : Protocol_data) (role : Role) (fs gs : List Front_data) (talks : List ℕ) → Once fs → Once gs → (known mid mid' : ℕ) (ns ns' : List ℕ) (cs : List LabelChoice) → Same fs gs known
    → Numbered known ns mid → Numbered known ns' mid' → AreBehind pr role fs talks cs ns → AreBehind pr role gs talks cs ns' → (ns ≡ ns') × (mid ≡ mid') × Same fs gs mid
same_numbers pr role fs gs talks o o' known _ _ _ _ cs ag (NoMore _) (NoMore _) h h' = (refl, refl, ag)
same_numbers pr role fs gs talks o o' known _ _ _ _ [] ag (NoMore _) (Known _ n _ ns lt k) h h' = elim h' [ ]
same_numbers pr role fs gs talks o o' known _ _ _ _ (c ∷ cs) ag (NoMore _) (Known _ n _ ns lt k) h h' = elim h [ ]
same_numbers pr role fs gs talks o o' known _ _ _ _ [] ag (NoMore _) (New _ _ ns k) h h' = elim h' [ ]
same_numbers pr role fs gs talks o o' known _ _ _ _ (c ∷ cs) ag (NoMore _) (New _ _ ns k) h h' = elim h [ ]
same_numbers pr role fs gs talks o o' known _ _ _ _ [] ag (Known _ n _ ns lt k) k' h h' = elim h [ ]
same_numbers pr role fs gs talks o o' known _ _ _ _ [] ag (New _ _ ns k) k' h h' = elim h [ ]
same_numbers pr role fs gs talks o o' known _ _ _ _ (c ∷ cs) ag (Known _ n _ ns lt k) (NoMore _) h h' = elim h' [ ]
same_numbers pr role fs gs talks o o' known _ _ _ _ (c ∷ cs) ag (New _ _ ns k) (NoMore _) h h' = elim h' [ ]
same_numbers pr role fs gs talks o o' known mid mid' _ _ (c ∷ cs) ag (Known _ n _ ns lt k) (Known _ n' _ ns' lt' k') h h' =
    let s = same_front h.0.front h'.0.front (MeetsBehind pr role talks c.label) (EndsBehind pr role talks c.label) h.0.is_front h'.0.is_front in
    let a = ag n lt in
    let e1 : a.0 ≡ h.0.front = (let x = a.1 in let y = h.0.stands in cc (x, y)) in
    let e : n ≡ n' = o' n n' h'.0.front (a.2 ∙ ap Some (e1 ∙ s)) h'.0.stands in
    let r = same_numbers pr role fs gs talks o o' known mid mid' ns ns' cs ag k k' h.1 h'.1 in
    (ap₂ (λ (x : ℕ) (xs : List ℕ). x ∷ xs) e r.0, r.1, r.2)
same_numbers pr role fs gs talks o o' known mid mid' _ _ (c ∷ cs) ag (Known _ n _ ns lt k) (New _ _ ns' k') h h' =
    let s = same_front h.0.front h'.0.front (MeetsBehind pr role talks c.label) (EndsBehind pr role talks c.label) h.0.is_front h'.0.is_front in
    let a = ag n lt in
    let e1 : a.0 ≡ h.0.front = (let x = a.1 in let y = h.0.stands in cc (x, y)) in
    let e : n ≡ known = o' n known h'.0.front (a.2 ∙ ap Some (e1 ∙ s)) h'.0.stands in
    absurd (omega (arith, e, lt))
same_numbers pr role fs gs talks o o' known mid mid' _ _ (c ∷ cs) ag (New _ _ ns k) (Known _ n' _ ns' lt' k') h h' =
    let s = same_front h.0.front h'.0.front (MeetsBehind pr role talks c.label) (EndsBehind pr role talks c.label) h.0.is_front h'.0.is_front in
    let a = ag n' lt' in
    let e1 : a.0 ≡ h'.0.front = (let x = a.2 in let y = h'.0.stands in cc (x, y)) in
    let e : n' ≡ known = o n' known h.0.front (a.1 ∙ ap Some (e1 ∙ sym s)) h.0.stands in
    absurd (omega (arith, e, lt'))
same_numbers pr role fs gs talks o o' known mid mid' _ _ (c ∷ cs) ag (New _ _ ns k) (New _ _ ns' k') h h' =
    let s = same_front h.0.front h'.0.front (MeetsBehind pr role talks c.label) (EndsBehind pr role talks c.label) h.0.is_front h'.0.is_front in
    let ag' : Same fs gs (suc known) = λ i lt. (elim (cases_lt i known) [
      | inl a ↦ ag i a
      | inr b ↦ (let e : known ≡ i = omega (arith, b, lt) in
          let P : ℕ → Type 0 = λ z. (f : Front_data) × (slice_get fs z ≡ Some f) × (slice_get gs z ≡ Some f) in
          subst P e (h.0.front, h.0.stands, h'.0.stands ∙ ap Some (sym s)))
    ]) in
    let r = same_numbers pr role fs gs talks o o' (suc known) mid mid' ns ns' cs ag' k k' h.1 h'.1 in
    (ap (λ (xs : List ℕ). known ∷ xs) r.0, r.1, r.2)

-- the rows from number k on name what is after the fronts
abbrev pub Rows : Protocol_data → Role → List Front_data → ℕ → List (List ℕ) → Type 0
Rows pr role fs k [] = Unit {0}
Rows pr role fs k (r ∷ rs) = ((f : Front_data) → slice_get fs k ≡ Some f → AreBehind pr role fs f.talks (merged_choices pr f.talks) r) × Rows pr role fs (suc k) rs

pub rows_from : (pr : Protocol_data) (role : Role) (fs : List Front_data) (k : ℕ) (rows : List (List ℕ))
    → ((j : ℕ) (f : Front_data) (r : List ℕ) → slice_get rows j ≡ Some r → slice_get fs (k + j) ≡ Some f → AreBehind pr role fs f.talks (merged_choices pr f.talks) r) → Rows pr role fs k rows
rows_from pr role fs k [] h = tt
rows_from pr role fs k (r ∷ rs) h = (
  (λ f at. (let e : k ≡ k + 0 = omega arith in let P : ℕ → Type 0 = λ z. slice_get fs z ≡ Some f in h 0 f r refl (subst P e at))),
  rows_from pr role fs (suc k) rs (λ j f s hs at. (let e : suc k + j ≡ k + suc j = omega arith in let P : ℕ → Type 0 = λ z. slice_get fs z ≡ Some f in h (suc j) f s hs (subst P e at))),
)

-- so far both go the same way
pub record Alike (fs gs : List Front_data) (k : ℕ) (tail tail' : List (List ℕ)) (after after' : ℕ) : Type 0 where
  pub known : ℕ
  pub one : Worked k known tail after
  pub other : Worked k known tail' after'
  pub same : Same fs gs known

pub along : (pr : Protocol_data) (role : Role) (fs gs : List Front_data) → Once fs → Once gs → (k known after after' : ℕ) (rows rows' tail tail' : List (List ℕ)) → length rows ≡ length rows'
    → Same fs gs known
    → Worked k known (rows ++ tail) after → Worked k known (rows' ++ tail') after' → Rows pr role fs k rows → Rows pr role gs k rows'
    → (rows ≡ rows') × Alike fs gs (k + length rows) tail tail' after after'
along pr role fs gs o o' k known after after' [] [] tail tail' l ag w w' rs rs' =
    let e : k ≡ k + 0 = omega arith in
    let P : ℕ → Type 0 = λ z. Alike fs gs z tail tail' after after' in
    (refl, subst P e record { known = known; one = w; other = w'; same = ag })
along pr role fs gs o o' k known after after' [] (r ∷ rows') tail tail' l ag w w' rs rs' = absurd (omega (arith, l))
along pr role fs gs o o' k known after after' (r ∷ rows) [] tail tail' l ag w w' rs rs' = absurd (omega (arith, l))
along pr role fs gs o o' k known after after' (r ∷ rows) (s ∷ rows') tail tail' l ag (Next _ _ mid _ _ _ lt nu w) (Next _ _ mid' _ _ _ lt' nu' w') rs rs' =
    let a = ag k lt in
    let n = same_numbers pr role fs gs a.0.talks o o' known mid mid' r s (merged_choices pr a.0.talks) ag nu nu' (rs.0 a.0 a.1) (rs'.0 a.0 a.2) in
    let P : ℕ → Type 0 = λ z. Worked (suc k) z (rows' ++ tail') after' in
    let m = along pr role fs gs o o' (suc k) mid after after' rows rows' tail tail' (omega (arith, l)) n.2 w (subst P (sym n.1) w') rs.1 rs'.1 in
    let e : suc k + length rows ≡ k + suc (length rows) = omega arith in
    let Q : ℕ → Type 0 = λ z. Alike fs gs z tail tail' after after' in
    (ap₂ (λ (x : List ℕ) (xs : List (List ℕ)). x ∷ xs) n.0 m.0, subst Q e m.1)

pub one_clash : (pr : Protocol_data) (role : Role) (f : Front_data) (a a' : ℕ) (b b' : Option ℕ) → FirstClash pr role f a b → FirstClash pr role f a' b' → (a ≡ a') × (b ≡ b')
one_clash pr role f a a' _ _ (OfTalks b i j hi hj lt diff least) (OfTalks b' i' j' hi' hj' lt' diff' least') =
    elim (cases_lt j j') [
      | inl l ↦ absurd (diff (least' a b i j hi hj lt (inl l)))
      | inr l ↦ elim (cases_lt j' j) [
        | inl k ↦ absurd (diff' (least a' b' i' j' hi' hj' lt' (inl k)))
        | inr k ↦ (let e : j ≡ j' = omega (arith, l, k) in elim (cases_lt i i') [
          | inl m ↦ absurd (diff (least' a b i j hi hj lt (inr (e, m))))
          | inr m ↦ elim (cases_lt i' i) [
            | inl n ↦ absurd (diff' (least a' b' i' j' hi' hj' lt' (inr (sym e, n))))
            | inr n ↦ (let s : i ≡ i' = omega (arith, m, n) in
                let P : ℕ → Type 0 = λ z. slice_get f.talks z ≡ Some a in
                let Q : ℕ → Type 0 = λ z. slice_get f.talks z ≡ Some b in
                let x = subst P s hi in let y = subst Q e hj in
                (cc (x, hi'), sym y ∙ hj'))
          ]
        ])
      ]
    ]
one_clash pr role f a a' _ _ (OfTalks b i j hi hj lt diff least) (OfTheEnd e at all) = absurd (diff (all a b i j hi hj lt))
one_clash pr role f a a' _ _ (OfTheEnd e at all) (OfTalks b i j hi hj lt diff least) = absurd (diff (all a' b i j hi hj lt))
one_clash pr role f a a' _ _ (OfTheEnd e at all) (OfTheEnd e' at' all') = (cc (at, at'), refl)

pub clash_not_merged : (pr : Protocol_data) (role : Role) (f : Front_data) (a : ℕ) (b : Option ℕ) → FirstClash pr role f a b → Merges pr role f → ⊥
clash_not_merged pr role f a _ (OfTalks b i j hi hj lt diff least) m = diff (m.agree a b (contains f.talks a (at_among f.talks i a hi)) (contains f.talks b (at_among f.talks j b hj)))
clash_not_merged pr role f a _ (OfTheEnd e at all) m =
    let P : List ℕ → Type 0 = λ z. slice_get z 0 ≡ Some a in
    let h = subst P (m.alone e) at in cc (h)

-- lists cut at the length of a shorter one
pub cut : {A : Type 0} (xs : List A) (n : ℕ) → n ≤ length xs → (front : List A) × (rest : List A) × (xs ≡ front ++ rest) × (length front ≡ n)
cut xs zero h = ([], xs, refl, refl)
cut [] (suc n) h = absurd (omega (arith, h))
cut (x ∷ xs) (suc n) h = let r = cut xs n (omega (arith, h)) in (x ∷ r.0, r.1, ap (λ z. x ∷ z) r.2, ap suc r.3)

pub rows_cut : (pr : Protocol_data) (role : Role) (fs : List Front_data) (k : ℕ) (front rest : List (List ℕ)) → Rows pr role fs k (front ++ rest) → Rows pr role fs k front
rows_cut pr role fs k [] rest h = tt
rows_cut pr role fs k (r ∷ front) rest h = (h.0, rows_cut pr role fs (suc k) front rest h.1)

pub append_same : (xs ys zs : List (List ℕ)) → (xs ++ ys) ++ zs ≡ xs ++ (ys ++ zs)
append_same [] ys zs = refl
append_same (x ∷ xs) ys zs = ap (λ u. x ∷ u) (append_same xs ys zs)

pub at_cut : (front rest : List (List ℕ)) (r : List ℕ) → slice_get (front ++ (r ∷ rest)) (length front) ≡ Some r
at_cut [] rest r = refl
at_cut (x ∷ front) rest r = at_cut front rest r
