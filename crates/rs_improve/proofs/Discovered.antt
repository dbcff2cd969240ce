-- What is discovered is one list, in one order.
use Rattle.std.proofs.Common.{◌≡◌, inl, inr, ℕ, ◌<◌, ◌≤◌, ◌+◌, List, [], ◌∷◌, length, refl, sym, ap, ◌∙◌, subst, arith, zero, suc, Some, slice_get}
use Rattle.std.proofs.lemmas.Bool.{cases_lt}
use Rattle.std.proofs.lemmas.Option.{same_Some}
use Rattle.rs_graph.proofs.Growth.{at_within}
use Rattle.rs_graph.specs.Discovery.{IsDiscovery}
use Rattle.rs_graph.specs.Lists.{ArePlacesOf}
use Rattle.rs_graph.specs.Order.{Once, Numbered, NoMore, Known, New, Worked, AllDone, Next}

-- the first n are the same
abbrev Agree : {X : Type 0} → List X → List X → ℕ → Type 0
Agree xs ys known = (i : ℕ) → i < known → slice_get xs i ≡ slice_get ys i

record SameRow {X : Type 0} (xs ys : List X) (row row' : List ℕ) (mid mid' : ℕ) : Type 0 where
  pub rows : row ≡ row'
  pub mids : mid ≡ mid'
  pub agree : Agree xs ys mid

more_agree : {X : Type 0} (xs ys : List X) (known : ℕ) (r : X) → Agree xs ys known → slice_get xs known ≡ Some r → slice_get ys known ≡ Some r → Agree xs ys (suc known)
more_agree xs ys known r ag ex ey i lt =
    elim (cases_lt i known) [ inl a ↦ ag i a | inr b ↦ (let e : i ≡ known = omega arith in ap (λ (z : ℕ). slice_get xs z) e ∙ ex ∙ sym ey ∙ ap (λ (z : ℕ). slice_get ys z) (sym e)) ]

row_same : {X : Type 0} (xs ys : List X) → Once xs → Once ys → (known mid mid' : ℕ) (row row' : List ℕ) (rs : List X) → Agree xs ys known → ArePlacesOf xs row rs → ArePlacesOf ys row' rs
    → Numbered known row mid
    → Numbered known row' mid' → SameRow xs ys row row' mid mid'
row_same xs ys ox oy known _ _ _ _ [] ag nx ny (NoMore _) (NoMore _) = record { rows = refl; mids = refl; agree = ag }
row_same xs ys ox oy known _ _ _ _ (r ∷ rs) ag nx ny (NoMore _) (NoMore _) = absurd nx
row_same xs ys ox oy known _ _ _ _ [] ag nx ny (NoMore _) (Known _ n _ ns h w) = absurd ny
row_same xs ys ox oy known _ _ _ _ (r ∷ rs) ag nx ny (NoMore _) (Known _ n _ ns h w) = absurd nx
row_same xs ys ox oy known _ _ _ _ [] ag nx ny (NoMore _) (New _ _ ns w) = absurd ny
row_same xs ys ox oy known _ _ _ _ (r ∷ rs) ag nx ny (NoMore _) (New _ _ ns w) = absurd nx
row_same xs ys ox oy known _ _ _ _ [] ag nx ny (Known _ n _ ns h w) q = absurd nx
row_same xs ys ox oy known _ _ _ _ (r ∷ rs) ag nx ny (Known _ n _ ns h w) (NoMore _) = absurd ny
row_same xs ys ox oy known mid mid' _ _ (r ∷ rs) ag nx ny (Known _ n _ ns h w) (Known _ m _ ms k v) =
    let e : n ≡ m = ox n m r nx.0 (ag m k ∙ ny.0) in
    let s = row_same xs ys ox oy known mid mid' ns ms rs ag nx.1 ny.1 w v in
    record { rows = ap (λ (z : ℕ). z ∷ ns) e ∙ ap (λ (z : List ℕ). m ∷ z) s.rows; mids = s.mids; agree = s.agree }
row_same xs ys ox oy known mid mid' _ _ (r ∷ rs) ag nx ny (Known _ n _ ns h w) (New _ _ ms v) =
    let e : n ≡ known = oy n known r (sym (ag n h) ∙ nx.0) ny.0 in let bad : ⊥ = omega arith in absurd bad
row_same xs ys ox oy known _ _ _ _ [] ag nx ny (New _ _ ns w) q = absurd nx
row_same xs ys ox oy known _ _ _ _ (r ∷ rs) ag nx ny (New _ _ ns w) (NoMore _) = absurd ny
row_same xs ys ox oy known mid mid' _ _ (r ∷ rs) ag nx ny (New _ _ ns w) (Known _ m _ ms k v) =
    let e : known ≡ m = ox known m r nx.0 (ag m k ∙ ny.0) in let bad : ⊥ = omega arith in absurd bad
row_same xs ys ox oy known mid mid' _ _ (r ∷ rs) ag nx ny (New _ _ ns w) (New _ _ ms v) =
    let s = row_same xs ys ox oy (suc known) mid mid' ns ms rs (more_agree xs ys known r ag nx.0 ny.0) nx.1 ny.1 w v in
    record { rows = ap (λ (z : List ℕ). known ∷ z) s.rows; mids = s.mids; agree = s.agree }

-- the rows from that place on name what the items lead to
abbrev Follow : {X : Type 0} → (X → List X) → List X → List (List ℕ) → ℕ → Type 0
Follow {X} next xs rows k = (i : ℕ) (row : List ℕ) (x : X) → slice_get rows i ≡ Some row → slice_get xs (k + i) ≡ Some x → ArePlacesOf xs row (next x)

known_up : (known after : ℕ) (row : List ℕ) → Numbered known row after → known ≤ after
known_up known _ _ (NoMore _) = omega arith
known_up known after _ (Known _ n _ ns h w) = known_up known after ns w
known_up known after _ (New _ _ ns w) = let k = known_up (suc known) after ns w in omega arith

worked_up : (k known after : ℕ) (rows : List (List ℕ)) → Worked k known rows after → known ≤ after
worked_up k known _ _ (AllDone _ _) = omega arith
worked_up k known after _ (Next _ _ mid _ row rows h n w) = let a = known_up known mid row n in let b = worked_up (suc k) mid after rows w in omega arith

record SameRows {X : Type 0} (xs ys : List X) (rows rows' : List (List ℕ)) (after after' : ℕ) : Type 0 where
  pub rows_same : rows ≡ rows'
  pub ends : after ≡ after'
  pub agree : Agree xs ys after

worked_same : {X : Type 0} (next : X → List X) (xs ys : List X) → Once xs → Once ys → (k known after after' : ℕ) (rows rows' : List (List ℕ)) → Agree xs ys known
    → Follow next xs rows k → Follow next ys rows' k → after ≡ length xs → after' ≡ length ys → k + length rows ≡ after → k + length rows' ≡ after' → Worked k known rows after
    → Worked k known rows' after' → SameRows xs ys rows rows' after after'
worked_same next xs ys ox oy k known _ _ _ _ ag fx fy ex ey lx ly (AllDone _ _) (AllDone _ _) = record { rows_same = refl; ends = refl; agree = ag }
worked_same next xs ys ox oy k known _ after' _ _ ag fx fy ex ey lx ly (AllDone _ _) (Next _ _ mid _ row rows h n w) = let bad : ⊥ = omega arith in absurd bad
worked_same next xs ys ox oy k known after _ _ _ ag fx fy ex ey lx ly (Next _ _ mid _ row rows h n w) (AllDone _ _) = let bad : ⊥ = omega arith in absurd bad
worked_same next xs ys ox oy k known after after' _ _ ag fx fy ex ey lx ly (Next _ _ mid _ row rows h n w) (Next _ _ mid' _ row' rows' h' n' w') =
    let p = at_within xs k (let a = known_up known mid row n in let b = worked_up (suc k) mid after rows w in omega arith) in
    let z : k + 0 ≡ k = omega arith in
    let px : slice_get xs (k + 0) ≡ Some p.0 = ap (λ (i : ℕ). slice_get xs i) z ∙ p.1 in
    let py : slice_get ys (k + 0) ≡ Some p.0 = ap (λ (i : ℕ). slice_get ys i) z ∙ sym (ag k h) ∙ p.1 in
    let s = row_same xs ys ox oy known mid mid' row row' (next p.0) ag (fx 0 row p.0 refl px) (fy 0 row' p.0 refl py) n n' in
    let w2 : Worked (suc k) mid rows' after' = subst (λ (m : ℕ). Worked (suc k) m rows' after') (sym s.mids) w' in
    let on : (i : ℕ) → k + suc i ≡ suc k + i = λ i. omega arith in
    let t = worked_same next xs ys ox oy (suc k) mid after after' rows rows' s.agree
    (λ i r q a b. fx (suc i) r q a (ap (λ (j : ℕ). slice_get xs j) (on i) ∙ b)) (λ i r q a b. fy (suc i) r q a (ap (λ (j : ℕ). slice_get ys j) (on i) ∙ b)) ex ey (omega arith) (omega arith) w w2 in
    record { rows_same = ap (λ (r : List ℕ). r ∷ rows) s.rows ∙ ap (λ (rs : List (List ℕ)). row' ∷ rs) t.rows_same; ends = t.ends; agree = t.agree }

pub same_list : {X : Type 0} (xs ys : List X) → length xs ≡ length ys → ((i : ℕ) → i < length xs → slice_get xs i ≡ slice_get ys i) → xs ≡ ys
same_list [] [] l h = refl
same_list [] (y ∷ ys) l h = (let bad : ⊥ = omega arith in absurd bad)
same_list (x ∷ xs) [] l h = (let bad : ⊥ = omega arith in absurd bad)
same_list {X = X} (x ∷ xs) (y ∷ ys) l h =
    let e : x ≡ y = same_Some x y (h zero (omega arith)) in
    ap (λ (z : X). z ∷ xs) e ∙ ap (λ (z : List X). y ∷ z) (same_list xs ys (omega arith) (λ i lt. h (suc i) (omega arith)))

pub one_discovery : {X : Type 0} (next : X → List X) (start : X) (found found' : List X) (rows rows' : List (List ℕ)) → IsDiscovery next start found rows → IsDiscovery next start found' rows'
    → (found ≡ found') × (rows ≡ rows')
one_discovery {X = X} next start found found' rows rows' d e =
    let s = worked_same next found found' d.once e.once 0 1 (length found) (length found') rows rows' begin (follows found rows d) (follows found' rows' e) refl refl (let a = d.all in omega arith)
    (let a = e.all in omega arith) d.order e.order in
    (same_list found found' s.ends s.agree, s.rows_same)
  where
    begin : Agree found found' 1
    begin i lt = (let z : i ≡ 0 = omega arith in ap (λ (j : ℕ). slice_get found j) z ∙ d.first ∙ sym e.first ∙ ap (λ (j : ℕ). slice_get found' j) (sym z))

    follows : (xs : List X) (rs : List (List ℕ)) → IsDiscovery next start xs rs → Follow next xs rs 0
    follows xs rs f i row x a b = f.names i x row (let z : 0 + i ≡ i = omega arith in ap (λ (j : ℕ). slice_get xs j) (sym z) ∙ b) a
