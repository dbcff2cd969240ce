-- Rows of the numbers behind nodes, and the same the other way round.
use Rattle.std.proofs.Common.{◌≡◌, ◌⊎◌, inl, inr, ℕ, zero, suc, ◌+◌, ◌<◌, Bool, true, false, if◌then◌else◌, List, [], ◌∷◌, ◌++◌, length, set, get_or, replicate, Some, slice_get, refl, sym, ap, ◌∙◌}
use Rattle.std.proofs.Common.{subst, arith}
use Rattle.std.proofs.lemmas.Bool.Decides.{eqb_tells}
use Rattle.std.proofs.lemmas.List.{get_or-set_same, get_or-set_other, length-set}
use Rattle.std.specs.List.{All}
use Rattle.rs_model.specs.Data.{Protocol_data}
use Rattle.rs_model.specs.declared.graph.Node.{Node}
use Rattle.rs_model.specs.declared.graph.Node.TheVariants.{Talk}
use Rattle.rs_wellformed.specs.WellFormed.{IsWellFormed}
use Rattle.rs_graph.specs.Lists.{Among}
use Rattle.rs_graph.specs.Ranks.{Edge}
use Rattle.rs_graph.specs.Walks.{Walk, Here, Further}
use Rattle.rs_graph.proofs.Ranking.{edge_within}
use Rattle.rs_project.specs.Graph.{PathStep, LeadsTo, IsPath}
use Rattle.rs_project.specs.Marks.{AreRows, IsOn, AllOn, nexts_of_node}
use Rattle.rs_project.proofs.Cycles.{all_by, next_within}
use Rattle.rs_project.proofs.Lists.{among_left, among_right, among_split, at_short, at_within}
use Rattle.rs_project.proofs.Spread.{step_of, path_snoc, among_leads, leads_among}
use Rattle.rs_partings.specs.Rows.{LeadWithin, with_back, turned}

-- ---- an edge leads from a flagged node to one behind an arm

pub edge_leads : (pr : Protocol_data) (flags : List Bool) (rows : List (List ℕ)) → AreRows pr flags (length pr.nodes) rows → (n next : ℕ) → Edge rows n next
    → (place : ℕ) × IsOn flags n × LeadsTo pr n place next
edge_leads pr flags rows are n next e =
    let w : n < length pr.nodes = (let k = edge_within rows n next e in let s = are.size in omega arith) in
    let at = at_within pr.nodes n w in
    go at.0 at.1 (get_or flags n false) refl (subst (λ (z : List ℕ). Among z next) (are.each n at.0 w at.1) e)
  where
    go : (node : Node) → slice_get pr.nodes n ≡ Some node → (b : Bool) → get_or flags n false ≡ b → Among (if get_or flags n false then nexts_of_node node else []) next
        → (place : ℕ) × IsOn flags n × LeadsTo pr n place next
    go node at true on h =
        let l = among_leads pr n next node at (subst (λ (z : Bool). Among (if z then nexts_of_node node else []) next) on h) in
        (l.0, on, l.1)
    go node at false off h = (let bad : Among [] next = subst (λ (z : Bool). Among (if z then nexts_of_node node else []) next) off h in absurd bad)

pub leads_edge : (pr : Protocol_data) (flags : List Bool) (rows : List (List ℕ)) → AreRows pr flags (length pr.nodes) rows → (n place next : ℕ) → IsOn flags n → LeadsTo pr n place next → Edge rows n next
leads_edge pr flags rows are n place next on goes =
    let node : Node = Talk goes.sender goes.receiver goes.arms in
    let is : get_or rows n [] ≡ nexts_of_node node = are.each n node (at_short pr.nodes n node goes.talks) goes.talks ∙ ap (λ (z : Bool). if z then nexts_of_node node else []) on in
    subst (λ (z : List ℕ). Among z next) (sym is) (leads_among pr n place next node goes.talks goes)

pub rows_within : (pr : Protocol_data) (flags : List Bool) (rows : List (List ℕ)) → IsWellFormed pr → AreRows pr flags (length pr.nodes) rows → LeadWithin rows
rows_within pr flags rows wf are n next e =
    let l = edge_leads pr flags rows are n next e in
    let w = next_within pr n l.0 next wf l.2 in
    let s = are.size in
    omega arith

-- ---- a walk goes along a path through flagged nodes

pub walk_path : (pr : Protocol_data) (flags : List Bool) (rows : List (List ℕ)) → AreRows pr flags (length pr.nodes) rows
    → (i k j : ℕ) → Walk (Edge rows) i k j → (ss : List PathStep) × IsPath pr i ss j × AllOn flags ss
walk_path pr flags rows are i _ _ (Here _) = ([], refl, tt)
walk_path pr flags rows are i _ j (Further _ h _ n e w) =
    let l = edge_leads pr flags rows are i h e in
    let r = walk_path pr flags rows are h n j w in
    (step_of i l.0 ∷ r.0, (h, refl, l.2, r.1), (l.1, r.2))

pub path_walk : (pr : Protocol_data) (flags : List Bool) (rows : List (List ℕ)) → AreRows pr flags (length pr.nodes) rows
    → (ss : List PathStep) (i j : ℕ) → IsPath pr i ss j → AllOn flags ss → Walk (Edge rows) i (length ss) j
path_walk pr flags rows are [] i j path all = subst (λ (z : ℕ). Walk (Edge rows) i 0 z) path (Here i)
path_walk pr flags rows are (s ∷ ss) i j path all =
    Further i path.0 j (length ss) (leads_edge pr flags rows are i s.place path.0 (subst (λ (z : ℕ). IsOn flags z) path.1 all.0) path.2)
    (path_walk pr flags rows are ss path.0 j path.3 all.1)

-- ---- and along the rows the other way round, backwards

pub record AreTurned (rows back : List (List ℕ)) : Type 0 where
  pub size : length back ≡ length rows
  pub to : (m x : ℕ) → Edge back m x → Edge rows x m
  pub from : (m x : ℕ) → Edge rows x m → Edge back m x

on_snoc : (flags : List Bool) (ss : List PathStep) (h a : ℕ) → AllOn flags ss → IsOn flags h → AllOn flags (ss ++ (step_of h a ∷ []))
on_snoc flags [] h a all one = (one, tt)
on_snoc flags (s ∷ ss) h a all one = (all.0, on_snoc flags ss h a all.1 one)

pub back_path : (pr : Protocol_data) (flags : List Bool) (rows back : List (List ℕ)) → AreRows pr flags (length pr.nodes) rows → AreTurned rows back
    → (i k j : ℕ) → Walk (Edge back) i k j → (ss : List PathStep) × IsPath pr j ss i × AllOn flags ss
back_path pr flags rows back are turn i _ _ (Here _) = ([], refl, tt)
back_path pr flags rows back are turn i _ j (Further _ h _ n e w) =
    let l = edge_leads pr flags rows are h i (turn.to i h e) in
    let r = back_path pr flags rows back are turn h n j w in
    (r.0 ++ (step_of h l.0 ∷ []), path_snoc pr r.0 j h l.0 i r.1 l.2, on_snoc flags r.0 h l.0 r.2 l.1)

pub walk_snoc : (E : ℕ → ℕ → Type 0) (i n j k : ℕ) → Walk E i n j → E j k → Walk E i (suc n) k
walk_snoc E i _ _ k (Here _) e = Further i k k 0 e (Here k)
walk_snoc E i _ j k (Further _ h _ n e w) last = Further i h k (suc n) e (walk_snoc E h n j k w last)

pub path_back : (pr : Protocol_data) (flags : List Bool) (rows back : List (List ℕ)) → AreRows pr flags (length pr.nodes) rows → AreTurned rows back
    → (ss : List PathStep) (i j : ℕ) → IsPath pr j ss i → AllOn flags ss → Walk (Edge back) i (length ss) j
path_back pr flags rows back are turn [] i j path all = subst (λ (z : ℕ). Walk (Edge back) i 0 z) (sym path) (Here i)
path_back pr flags rows back are turn (s ∷ ss) i j path all =
    let on = subst (λ (z : ℕ). IsOn flags z) path.1 all.0 in
    walk_snoc (Edge back) i (length ss) path.0 j (path_back pr flags rows back are turn ss i path.0 path.3 all.1)
    (turn.from path.0 j (leads_edge pr flags rows are j s.place path.0 on path.2))

-- ---- the rows that were turned round

put_from : (back : List (List ℕ)) (y n m x : ℕ) → y < length back → Edge (set back y (get_or back y [] ++ (n ∷ []))) m x → Edge back m x ⊎ ((n ≡ x) × (y ≡ m))
put_from back y n m x lt e = elim (eqb_tells m y) [
  | inl p ↦ (
      let q : m ≡ y = p.1 in
      let v = get_or back y [] ++ (n ∷ []) in
      let is : get_or (set back y v) m [] ≡ v = ap (λ (z : ℕ). get_or (set back y v) z []) q ∙ get_or-set_same back y v [] lt in
      elim (among_split (get_or back y []) (n ∷ []) x (subst (λ (z : List ℕ). Among z x) is e)) [
        | inl k ↦ inl (subst (λ (z : ℕ). Edge back z x) (sym q) k)
        | inr (inl k) ↦ inr (k, sym q)
        | inr (inr k) ↦ absurd k
      ])
  | inr p ↦ inl (subst (λ (z : List ℕ). Among z x) (get_or-set_other back y m (get_or back y [] ++ (n ∷ [])) [] p.1) e)
]

put_keeps : (back : List (List ℕ)) (y n m x : ℕ) → y < length back → Edge back m x → Edge (set back y (get_or back y [] ++ (n ∷ []))) m x
put_keeps back y n m x lt e = elim (eqb_tells m y) [
  | inl p ↦ (
      let q : m ≡ y = p.1 in
      let v = get_or back y [] ++ (n ∷ []) in
      let is : get_or (set back y v) m [] ≡ v = ap (λ (z : ℕ). get_or (set back y v) z []) q ∙ get_or-set_same back y v [] lt in
      subst (λ (z : List ℕ). Among z x) (sym is) (among_left (get_or back y []) (n ∷ []) x (subst (λ (z : ℕ). Edge back z x) q e)))
  | inr p ↦ subst (λ (z : List ℕ). Among z x) (sym (get_or-set_other back y m (get_or back y [] ++ (n ∷ [])) [] p.1)) e
]

put_has : (back : List (List ℕ)) (y n : ℕ) → y < length back → Edge (set back y (get_or back y [] ++ (n ∷ []))) y n
put_has back y n lt =
    subst (λ (z : List ℕ). Among z n) (sym (get_or-set_same back y (get_or back y [] ++ (n ∷ [])) [] lt)) (among_right (get_or back y []) (n ∷ []) n (inl refl))

pub with_size : (back : List (List ℕ)) (n : ℕ) (ys : List ℕ) → length (with_back back n ys) ≡ length back
with_size back n [] = refl
with_size back n (y ∷ ys) = with_size (set back y (get_or back y [] ++ (n ∷ []))) n ys ∙ length-set back y (get_or back y [] ++ (n ∷ []))

abbrev AllBelow : ℕ → List ℕ → Type 0
AllBelow count ys = (y : ℕ) → Among ys y → y < count

below_as : (old new : List (List ℕ)) (y n : ℕ) (ys : List ℕ) → new ≡ set old y (get_or old y [] ++ (n ∷ [])) → AllBelow (length old) (y ∷ ys) → AllBelow (length new) ys
below_as old new y n ys e below z m =
    let w = below z (inr m) in
    let s : length new ≡ length old = ap (λ (k : List (List ℕ)). length k) e ∙ length-set old y (get_or old y [] ++ (n ∷ [])) in
    omega (arith, w, s)

with_from : (back : List (List ℕ)) (n : ℕ) (ys : List ℕ) (m x : ℕ) → AllBelow (length back) ys → Edge (with_back back n ys) m x → Edge back m x ⊎ ((n ≡ x) × Among ys m)
with_from back n [] m x below e = inl e
with_from back n (y ∷ ys) m x below e =
    elim (with_from (set back y (get_or back y [] ++ (n ∷ []))) n ys m x (below_as back (set back y (get_or back y [] ++ (n ∷ []))) y n ys refl below) e) [
      | inl k ↦ elim (put_from back y n m x (below y (inl refl)) k) [ inl o ↦ inl o | inr o ↦ inr (o.0, inl o.1) ]
      | inr k ↦ inr (k.0, inr k.1)
    ]

with_keeps : (back : List (List ℕ)) (n : ℕ) (ys : List ℕ) (m x : ℕ) → AllBelow (length back) ys → Edge back m x → Edge (with_back back n ys) m x
with_keeps back n [] m x below e = e
with_keeps back n (y ∷ ys) m x below e =
    with_keeps (set back y (get_or back y [] ++ (n ∷ []))) n ys m x (below_as back (set back y (get_or back y [] ++ (n ∷ []))) y n ys refl below)
    (put_keeps back y n m x (below y (inl refl)) e)

with_has : (back : List (List ℕ)) (n : ℕ) (ys : List ℕ) (m : ℕ) → AllBelow (length back) ys → Among ys m → Edge (with_back back n ys) m n
with_has back n [] m below h = absurd h
with_has back n (y ∷ ys) m below (inl q) =
    with_keeps (set back y (get_or back y [] ++ (n ∷ []))) n ys m n (below_as back (set back y (get_or back y [] ++ (n ∷ []))) y n ys refl below)
    (subst (λ (z : ℕ). Edge (set back y (get_or back y [] ++ (n ∷ []))) z n) q (put_has back y n (below y (inl refl))))
with_has back n (y ∷ ys) m below (inr h) =
    with_has (set back y (get_or back y [] ++ (n ∷ []))) n ys m (below_as back (set back y (get_or back y [] ++ (n ∷ []))) y n ys refl below) h

abbrev RowsBelow : ℕ → List (List ℕ) → Type 0
RowsBelow count rows = (i y : ℕ) → Edge rows i y → y < count

below_with : (back : List (List ℕ)) (n : ℕ) (row : List ℕ) (rows : List (List ℕ)) → RowsBelow (length back) (row ∷ rows) → RowsBelow (length (with_back back n row)) rows
below_with back n row rows below i y e =
    let w = below (suc i) y e in
    let s = with_size back n row in
    omega (arith, w, s)

pub turned_size : (n : ℕ) (rows back : List (List ℕ)) → length (turned n rows back) ≡ length back
turned_size n [] back = refl
turned_size n (row ∷ rows) back = turned_size (n + 1) rows (with_back back n row) ∙ with_size back n row

turned_from : (n : ℕ) (rows back : List (List ℕ)) (m x : ℕ) → RowsBelow (length back) rows → Edge (turned n rows back) m x → Edge back m x ⊎ ((i : ℕ) × (x ≡ n + i) × Edge rows i m)
turned_from n [] back m x below e = inl e
turned_from n (row ∷ rows) back m x below e = elim (turned_from (n + 1) rows (with_back back n row) m x (below_with back n row rows below) e) [
  | inl k ↦ elim (with_from back n row m x (λ y h. below 0 y h) k) [ inl o ↦ inl o | inr o ↦ inr (0, (let q = o.0 in omega (arith, q)), o.1) ]
  | inr k ↦ inr (suc k.0, (let q = k.1 in omega (arith, q)), k.2)
]

turned_keeps : (n : ℕ) (rows back : List (List ℕ)) (m x : ℕ) → RowsBelow (length back) rows → Edge back m x → Edge (turned n rows back) m x
turned_keeps n [] back m x below e = e
turned_keeps n (row ∷ rows) back m x below e =
    turned_keeps (n + 1) rows (with_back back n row) m x (below_with back n row rows below) (with_keeps back n row m x (λ y h. below 0 y h) e)

turned_has : (n : ℕ) (rows back : List (List ℕ)) (i m : ℕ) → RowsBelow (length back) rows → Edge rows i m → Edge (turned n rows back) m (n + i)
turned_has n [] back i m below h = absurd h
turned_has n (row ∷ rows) back zero m below h =
    let q : n ≡ n + zero = omega arith in
    subst (λ (z : ℕ). Edge (turned n (row ∷ rows) back) m z) q
    (turned_keeps (n + 1) rows (with_back back n row) m n (below_with back n row rows below) (with_has back n row m (λ y k. below 0 y k) h))
turned_has n (row ∷ rows) back (suc i) m below h =
    let q : (n + 1) + i ≡ n + suc i = omega arith in
    subst (λ (z : ℕ). Edge (turned n (row ∷ rows) back) m z) q (turned_has (n + 1) rows (with_back back n row) i m (below_with back n row rows below) h)

replicate_size : (count : ℕ) (row : List ℕ) → length (replicate count row) ≡ count
replicate_size zero row = refl
replicate_size (suc count) row = ap suc (replicate_size count row)

none_empty : (count m x : ℕ) → Edge (replicate count []) m x → ⊥
none_empty zero m x e = e
none_empty (suc count) zero x e = e
none_empty (suc count) (suc m) x e = none_empty count m x e

pub are_turned : (rows back : List (List ℕ)) → LeadWithin rows → back ≡ turned 0 rows (replicate (length rows) []) → AreTurned rows back
are_turned rows back within e = subst (λ (z : List (List ℕ)). AreTurned rows z) (sym e) (record {
  size = turned_size 0 rows (replicate (length rows) []) ∙ replicate_size (length rows) [];
  to = λ m x h. elim (turned_from 0 rows (replicate (length rows) []) m x below h) [
    | inl k ↦ absurd (none_empty (length rows) m x k)
    | inr k ↦ (let q : k.0 ≡ x = (let z = k.1 in omega (arith, z)) in subst (λ (z : ℕ). Edge rows z m) q k.2)
  ];
  from = λ m x h. (let q : 0 + x ≡ x = omega arith in
      subst (λ (z : ℕ). Edge (turned 0 rows (replicate (length rows) [])) m z) q (turned_has 0 rows (replicate (length rows) []) x m below h));
})
  where
    below : (i y : ℕ) → Edge rows i y → y < length (replicate {A = List ℕ} (length rows) [])
    below i y h = let w = within i y h in let s = replicate_size (length rows) [] in omega (arith, w, s)

pub turned_within : (rows back : List (List ℕ)) → AreTurned rows back → LeadWithin back
turned_within rows back turn n next e = let w = edge_within rows next n (turn.to n next e) in let s = turn.size in omega (arith, w, s)

pub row_below : (rows : List (List ℕ)) (count n : ℕ) (row : List ℕ) → LeadWithin rows → count ≡ length rows → row ≡ get_or rows n [] → All (λ y. y < count) row
row_below rows count n row within size e =
    all_by (λ y. y < count) row (λ y m. (let w = within n y (subst (λ (z : List ℕ). Among z y) e m) in omega (arith, w, size)))
