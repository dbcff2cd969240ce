-- The search for cycles, step by step.
use Rattle.std.proofs.Common.{◌≡◌, ◌≢◌, ◌⊎◌, inl, inr, ℕ, ◌<◌, ◌≤◌, Bool, true, false, List, [], ◌∷◌, ◌++◌, length, get_or, set, refl, sym, ap, ◌∙◌, subst, arith, ◌+◌, ◌*◌, suc, zero, Some}
use Rattle.std.proofs.Common.{slice_get, length-append, append_assoc, append-nil, replicate, take, take_all, Result, Ok, Err}
use Rattle.std.specs.Prelude.{OnOk}
use Rattle.std.specs.List.{sum_by}
use Rattle.std.proofs.lemmas.List.{length-replicate}
use Rattle.std.proofs.Math.Nat.{suc-mul}
use Rattle.std.proofs.lemmas.Bool.Decides.{eqb_tells}
use Rattle.std.proofs.lemmas.Bool.{cases_lt}
use Rattle.std.proofs.lemmas.Option.{none-some, same_Some}
use Rattle.rs_graph.specs.Lists.{Among}
use Rattle.rs_graph.specs.Paths.{AllFit, AreRight, NoneMoreAhead, CycleIsKnown, Joining, Layer, LayerFits, Leaving, Searching, Splits, TakenOff, ahead, edges_of, parts_of, path_of, to_do}
use Rattle.rs_graph.specs.Ranks.{Edge, IsOrdered}
use Rattle.rs_graph.specs.Walks.{Walk, Here, Further, IsOnCycle}
use Rattle.rs_graph.specs.declared.cycles.NodeMark.{NodeMark}
use Rattle.rs_graph.specs.declared.cycles.NodeMark.TheVariants.{Ahead, On, Known}
use Rattle.rs_graph.specs.declared.cycles.PathPart.{PathPart}
use Rattle.rs_graph.proofs.Counting.{row_most}
use Rattle.rs_graph.proofs.Growth.{at_in, at_short, in_at, no_more, push_at, push_is, push_new, push_once, reads_at, take_on}
use Rattle.rs_graph.proofs.Ranking.{cycle_within, no_cycle}
use Rattle.rs_graph.proofs.Removed.{upto, upto_has, upto_length}

-- lists that end alike
same_ends : {X : Type 0} (xs ys : List X) (x y : X) → xs ++ (x ∷ []) ≡ ys ++ (y ∷ []) → (xs ≡ ys) × (x ≡ y)
same_ends [] [] x y e = (refl, cc (e))
same_ends {X = X} [] (z ∷ ys) x y e = (let l : 1 ≡ suc (length (ys ++ (y ∷ []))) = ap (λ (w : List X). length w) e in let k = length-append ys (y ∷ []) in let bad : ⊥ = omega arith in absurd bad)
same_ends {X = X} (z ∷ xs) [] x y e = (let l : suc (length (xs ++ (x ∷ []))) ≡ 1 = ap (λ (w : List X). length w) e in let k = length-append xs (x ∷ []) in let bad : ⊥ = omega arith in absurd bad)
same_ends {X = X} (z ∷ xs) (w ∷ ys) x y e = (let t : xs ++ (x ∷ []) ≡ ys ++ (y ∷ []) = cc (e) in let h : z ≡ w = cc (e) in let r = same_ends xs ys x y t in
    (ap (λ (u : List X). z ∷ u) r.0 ∙ ap (λ (u : X). u ∷ ys) h, r.1))

-- the last of a list with something at its end
last_of : {X : Type 0} (xs ys zs : List X) (z : X) → 0 < length ys → xs ++ ys ≡ zs ++ (z ∷ []) → (us : List X) × (ys ≡ us ++ (z ∷ [])) × (zs ≡ xs ++ us)
last_of {X = X} xs ys zs z some e =
    let s = split ys some in
    let r = same_ends (xs ++ s.0) zs s.1 z (append_assoc xs s.0 (s.1 ∷ []) ∙ ap (λ (w : List X). xs ++ w) (sym s.2) ∙ e) in
    (s.0, s.2 ∙ ap (λ (w : X). s.0 ++ (w ∷ [])) r.1, sym r.0)
  where
    split : (ys : List X) → 0 < length ys → (us : List X) × (u : X) × (ys ≡ us ++ (u ∷ []))
    split [] h = let bad : ⊥ = omega arith in absurd bad
    split (y ∷ []) h = ([], y, refl)
    split (y ∷ x ∷ ys) h = let r = split (x ∷ ys) (omega arith) in (y ∷ r.0, r.1, ap (λ (w : List X). y ∷ w) r.2)

same_parts : {X : Type 0} (xs us ys vs : List X) → length xs ≡ length us → xs ++ ys ≡ us ++ vs → (xs ≡ us) × (ys ≡ vs)
same_parts [] [] ys vs l e = (refl, e)
same_parts [] (u ∷ us) ys vs l e = let bad : ⊥ = omega arith in absurd bad
same_parts (x ∷ xs) [] ys vs l e = let bad : ⊥ = omega arith in absurd bad
same_parts {X = X} (x ∷ xs) (u ∷ us) ys vs l e = (let t : xs ++ ys ≡ us ++ vs = cc (e) in let h : x ≡ u = cc (e) in let r = same_parts xs us ys vs (omega arith) t in
    (ap (λ (w : X). w ∷ xs) h ∙ ap (λ (w : List X). u ∷ w) r.0, r.1))

has_left : (xs ys : List ℕ) (x : ℕ) → Among xs x → Among (xs ++ ys) x
has_left [] ys x h = absurd h
has_left (z ∷ xs) ys x (inl e) = inl e
has_left (z ∷ xs) ys x (inr h) = inr (has_left xs ys x h)

has_right : (xs ys : List ℕ) (x : ℕ) → Among ys x → Among (xs ++ ys) x
has_right [] ys x h = h
has_right (z ∷ xs) ys x h = inr (has_right xs ys x h)

in_either : (xs ys : List ℕ) (x : ℕ) → Among (xs ++ ys) x → Among xs x ⊎ Among ys x
in_either [] ys x h = inr h
in_either (z ∷ xs) ys x (inl e) = inl (inl e)
in_either (z ∷ xs) ys x (inr h) = elim (in_either xs ys x h) [ inl a ↦ inl (inr a) | inr b ↦ inr b ]

among_or_not : (xs : List ℕ) (x : ℕ) → Among xs x ⊎ (Among xs x → ⊥)
among_or_not [] x = inr (λ h. h)
among_or_not (y ∷ xs) x = elim (eqb_tells y x) [
  | inl e ↦ inl (inl e.1)
  | inr ne ↦ elim (among_or_not xs x) [
    | inl m ↦ inl (inr m)
    | inr out ↦ inr (λ h. elim h [ inl e ↦ ne.1 e | inr m ↦ out m ])
  ]
]

-- walks
join : (E : ℕ → ℕ → Type 0) (i n j m k : ℕ) → Walk E i n j → Walk E j m k → Walk E i (n + m) k
join E i _ _ m k (Here _) v = subst (λ (z : ℕ). Walk E i z k) (let q : m ≡ 0 + m = omega arith in q) v
join E i _ j m k (Further _ x _ n e w) v = subst (λ (z : ℕ). Walk E i z k) (let q : suc (n + m) ≡ suc n + m = omega arith in q) (Further i x k (n + m) e (join E x n j m k w v))

-- a walk of some steps, and then one of any number
some_join : (E : ℕ → ℕ → Type 0) (i n j m k : ℕ) → Walk E i (suc n) j → Walk E j m k → (l : ℕ) × Walk E i (suc l) k
some_join E i n j m k w v = (n + m, subst (λ (z : ℕ). Walk E i z k) (let q : suc n + m ≡ suc (n + m) = omega arith in q) (join E i (suc n) j m k w v))

any_join : (E : ℕ → ℕ → Type 0) (i n j m k : ℕ) → Walk E i n j → Walk E j (suc m) k → (l : ℕ) × Walk E i (suc l) k
any_join E i n j m k w v = (n + m, subst (λ (z : ℕ). Walk E i z k) (let q : n + suc m ≡ suc (n + m) = omega arith in q) (join E i n j (suc m) k w v))

one_step : (E : ℕ → ℕ → Type 0) (i j : ℕ) → E i j → Walk E i 1 j
one_step E i j e = Further i j j zero e (Here j)

-- nodes of one part lead to each other
within : (rows : List (List ℕ)) (marks : List NodeMark) (lower nodes edges : List ℕ) (round : Bool) → LayerFits rows marks lower nodes edges round → (x y : ℕ) → Among nodes x → Among nodes y
    → (n : ℕ) × Walk (Edge rows) x n y
within rows marks lower nodes edges true f x y a b = let r = f.around refl x y a b in (suc r.0, r.1)
within rows marks lower nodes edges false f x y a b = (zero, subst (λ (z : ℕ). Walk (Edge rows) x 0 z) (f.one refl x y a b) (Here x))

-- the last part is taken off
pub taken_off : (rows : List (List ℕ)) (marks : List NodeMark) (path edges : List ℕ) (parts before : List PathPart) (part : PathPart) → parts ≡ before ++ (part ∷ [])
    → Searching rows marks path edges parts → TakenOff rows marks path edges before part
taken_off rows marks path edges parts before part e s = go s.layers s.path_is s.edges_is (sym e ∙ s.parts_is) s.fit
  where
    go : (layers : List Layer) → path ≡ path_of layers → edges ≡ edges_of layers → before ++ (part ∷ []) ≡ parts_of layers → AllFit rows marks layers → TakenOff rows marks path edges before part
    go [] ep ee pe f = (let l : length (before ++ (part ∷ [])) ≡ 0 = ap (λ (w : List PathPart). length w) pe in let k = length-append before (part ∷ []) in let bad : ⊥ = omega arith in absurd bad)
    go (l ∷ ls) ep ee pe f =
        let r = same_ends before (parts_of ls) part (record { start = length (path_of ls); edges = length (edges_of ls); round = l.round }) pe in
        record {
          splits = record {
            nodes = l.nodes;
            last = l.edges;
            layers = ls;
            path_is = ep;
            edges_is = ee;
            parts_is = r.0;
            start_is = ap (λ (z : PathPart). z.start) r.1;
            from_is = ap (λ (z : PathPart). z.edges) r.1;
            fit = f.1;
          };
          here = subst (λ (z : Bool). LayerFits rows marks (path_of ls) l.nodes l.edges z) (sym (ap (λ (z : PathPart). z.round) r.1)) f.0;
        }

-- the last part is put on again
pub put_on : (rows : List (List ℕ)) (marks : List NodeMark) (path edges : List ℕ) (parts before : List PathPart) (part : PathPart) → parts ≡ before ++ (part ∷ []) → AreRight rows marks path
    → TakenOff rows marks path edges before part → Searching rows marks path edges parts
put_on rows marks path edges parts before part e right t =
    let s = t.splits in
    record {
      layers = record { nodes = s.nodes; edges = s.last; round = part.round } ∷ s.layers;
      path_is = s.path_is;
      edges_is = s.edges_is;
      parts_is = e ∙ ap (λ (z : List PathPart). z ++ (part ∷ [])) s.parts_is
          ∙ ap (λ (z : PathPart). parts_of s.layers ++ (z ∷ [])) (same part (length (path_of s.layers)) (length (edges_of s.layers)) s.start_is s.from_is);
      fit = (t.here, s.fit);
      right = right;
    }
  where
    same : (p : PathPart) (a b : ℕ) → p.start ≡ a → p.edges ≡ b → p ≡ record { start = a; edges = b; round = p.round }
    same p a b ea eb = ap (λ (z : ℕ). record { start = z; edges = p.edges; round = p.round }) ea ∙ ap (λ (z : ℕ). record { start = a; edges = z; round = p.round }) eb

-- an edge to a known node is done with
pub looked_at : (rows : List (List ℕ)) (marks : List NodeMark) (path edges rest : List ℕ) (before : List PathPart) (part : PathPart) (y : ℕ) → edges ≡ rest ++ (y ∷ []) → part.edges ≢ length edges
    → CycleIsKnown marks y → TakenOff rows marks path edges before part → TakenOff rows marks path rest before part
looked_at rows marks path edges rest before part y e some known t =
    let s = t.splits in
    let l : length edges ≡ length (edges_of s.layers) + length s.last = ap (λ (z : List ℕ). length z) s.edges_is ∙ length-append (edges_of s.layers) s.last in
    let more : 0 < length s.last = elim (cases_lt 0 (length s.last)) [ inl a ↦ a | inr a ↦ absurd (some (let f = s.from_is in omega arith)) ] in
    let r = last_of (edges_of s.layers) s.last rest y more (sym s.edges_is ∙ e) in
    record {
      splits = record {
        nodes = s.nodes;
        last = r.0;
        layers = s.layers;
        path_is = s.path_is;
        edges_is = r.2;
        parts_is = s.parts_is;
        start_is = s.start_is;
        from_is = s.from_is;
        fit = s.fit;
      };
      here = record {
        first = t.here.first;
        reached = t.here.reached;
        around = t.here.around;
        one = t.here.one;
        sources = λ z m. t.here.sources z (subst (λ (w : List ℕ). Among w z) (sym r.1) (has_left r.0 (y ∷ []) z m));
        told = λ x z m g. elim (t.here.told x z m g) [
          | inl k ↦ inl k
          | inr k ↦ elim k [
            | inr a ↦ inr (inr a)
            | inl a ↦ elim (in_either r.0 (y ∷ []) z (subst (λ (w : List ℕ). Among w z) r.1 a)) [
              | inl b ↦ inr (inl b)
              | inr b ↦ inl (elim b [ inl q ↦ subst (λ (w : ℕ). CycleIsKnown marks w) q known | inr q ↦ absurd q ])
            ]
          ]
        ];
      };
    }

-- marks that know no less
abbrev Knows : List NodeMark → List NodeMark → Type 0
Knows old new = (x : ℕ) → CycleIsKnown old x → CycleIsKnown new x

keeps_layer : (rows : List (List ℕ)) (old new : List NodeMark) (lower nodes edges : List ℕ) (round : Bool) → Knows old new → LayerFits rows old lower nodes edges round
    → LayerFits rows new lower nodes edges round
keeps_layer rows old new lower nodes edges round k f = record {
  first = f.first;
  reached = f.reached;
  around = f.around;
  one = f.one;
  sources = f.sources;
  told = λ x y m e. elim (f.told x y m e) [ inl a ↦ inl (k y a) | inr a ↦ inr a ];
}

keeps_all : (rows : List (List ℕ)) (old new : List NodeMark) (layers : List Layer) → Knows old new → AllFit rows old layers → AllFit rows new layers
keeps_all rows old new [] k f = tt
keeps_all rows old new (l ∷ ls) k f = (keeps_layer rows old new (path_of ls) l.nodes l.edges l.round k f.0, keeps_all rows old new ls k f.1)

-- a mark that is set
set_at : {X : Type 0} (xs : List X) (i : ℕ) (x : X) → i < length xs → slice_get (set xs i x) i ≡ Some x
set_at [] i x h = let bad : ⊥ = omega arith in absurd bad
set_at (y ∷ xs) zero x h = refl
set_at (y ∷ xs) (suc i) x h = set_at xs i x (omega arith)

set_other : {X : Type 0} (xs : List X) (i j : ℕ) (x : X) → j ≢ i → slice_get (set xs i x) j ≡ slice_get xs j
set_other [] i j x ne = refl
set_other (y ∷ xs) zero zero x ne = absurd (ne refl)
set_other (y ∷ xs) zero (suc j) x ne = refl
set_other (y ∷ xs) (suc i) zero x ne = refl
set_other (y ∷ xs) (suc i) (suc j) x ne = set_other xs i j x (λ e. ne (ap suc e))

set_size : {X : Type 0} (xs : List X) (i : ℕ) (x : X) → length (set xs i x) ≡ length xs
set_size [] i x = refl
set_size (y ∷ xs) zero x = refl
set_size (y ∷ xs) (suc i) x = ap suc (set_size xs i x)

-- the node is a part of its own
pub entered : (rows : List (List ℕ)) (marks : List NodeMark) (path edges row : List ℕ) (parts : List PathPart) (y : ℕ) → slice_get marks y ≡ Some Ahead → row ≡ get_or rows y []
    → AreRight rows marks path → ((x : ℕ) → Among path x → (n : ℕ) × Walk (Edge rows) x n y)
    → Searching rows marks path edges parts
    → Searching rows (set marks y (On (length path))) (path ++ (y ∷ [])) (edges ++ row) (parts ++ (record { start = length path; edges = length edges; round = false } ∷ []))
entered rows marks path edges row parts y new er right led s = record {
  layers = record { nodes = y ∷ []; edges = row; round = false } ∷ s.layers;
  path_is = ap (λ (z : List ℕ). z ++ (y ∷ [])) s.path_is;
  edges_is = ap (λ (z : List ℕ). z ++ row) s.edges_is;
  parts_is = ap (λ (z : List PathPart). z ++ (record { start = length path; edges = length edges; round = false } ∷ [])) s.parts_is
      ∙ ap (λ (z : List ℕ). parts_of s.layers ++ (record { start = length z; edges = length edges; round = false } ∷ [])) s.path_is
      ∙ ap (λ (z : List ℕ). parts_of s.layers ++ (record { start = length (path_of s.layers); edges = length z; round = false } ∷ [])) s.edges_is;
  fit = (
    record {
      first = (y, inl refl);
      reached = λ x z a b. subst (λ (w : ℕ). (n : ℕ) × Walk (Edge rows) x n w) (only z b) (led x (subst (λ (w : List ℕ). Among w x) (sym s.path_is) a));
      around = λ e. absurd (cc (e));
      one = λ e x z a b. sym (only x a) ∙ only z b;
      sources = λ z m. (y, inl refl, subst (λ (w : List ℕ). Among w z) er m);
      told = λ x z m e. inr (inl (subst (λ (w : List ℕ). Among w z) (sym er) (subst (λ (w : ℕ). Edge rows w z) (sym (only x m)) e)));
    },
    keeps_all rows marks (set marks y (On (length path))) s.layers knows s.fit,
  );
  right = record {
    size = set_size marks y (On (length path)) ∙ right.size;
    to = λ i x e. elim (push_is path y i x e) [
      | inl q ↦ (let old = right.to i x q in set_other marks y x (On (length path))
          (λ h. let bad : Ahead ≡ On i = same_Some Ahead (On i) (sym new ∙ ap (λ (w : ℕ). slice_get marks w) (sym h) ∙ old) in cc (bad)) ∙ old)
      | inr q ↦ (subst (λ (w : ℕ). slice_get (set marks y (On (length path))) w ≡ Some (On i)) q.1 (here ∙ ap (λ (w : ℕ). Some (On w)) (sym q.0)))
    ];
    from = λ x i e. elim (eqb_tells x y) [
      | inl h ↦ (let k : Some (On (length path)) ≡ Some (On i) = sym here ∙ ap (λ (w : ℕ). slice_get (set marks y (On (length path))) w) (sym h.1) ∙ e in
          let li : length path ≡ i = cc (k) in
          subst (λ (w : ℕ). slice_get (path ++ (y ∷ [])) i ≡ Some w) (sym h.1) (subst (λ (w : ℕ). slice_get (path ++ (y ∷ [])) w ≡ Some y) li (push_new path y)))
      | inr h ↦ push_at path y i x (right.from x i (sym (set_other marks y x (On (length path)) h.1) ∙ e))
    ];
    closed = λ x z k e. knows z (right.closed x z (known x k) e);
    yes = λ x e. right.yes x (back x true e);
    not = λ x e. right.not x (back x false e);
  };
}
  where
    only : (z : ℕ) → Among (y ∷ []) z → y ≡ z
    only z (inl e) = e
    only z (inr h) = absurd h

    here : slice_get (set marks y (On (length path))) y ≡ Some (On (length path))
    here = set_at marks y (On (length path)) (at_short marks y Ahead new)

    back : (x : ℕ) (b : Bool) → slice_get (set marks y (On (length path))) x ≡ Some (Known b) → slice_get marks x ≡ Some (Known b)
    back x b e = elim (eqb_tells x y) [
      | inl h ↦ (let k : Some (On (length path)) ≡ Some (Known b) = sym here ∙ ap (λ (w : ℕ). slice_get (set marks y (On (length path))) w) (sym h.1) ∙ e in absurd (cc (k)))
      | inr h ↦ sym (set_other marks y x (On (length path)) h.1) ∙ e
    ]

    known : (x : ℕ) → CycleIsKnown (set marks y (On (length path))) x → CycleIsKnown marks x
    known x k = (k.0, back x k.0 k.1)

    knows : Knows marks (set marks y (On (length path)))
    knows x k = (
      k.0,
      set_other marks y x (On (length path)) (λ h. let bad : Ahead ≡ Known k.0 = same_Some Ahead (Known k.0) (sym new ∙ ap (λ (w : ℕ). slice_get marks w) (sym h) ∙ k.1) in cc (bad))
          ∙ k.1,
    )

-- counts

pub path_few : (rows : List (List ℕ)) (marks : List NodeMark) (path : List ℕ) → AreRight rows marks path → length path ≤ length rows
path_few rows marks path right =
    let outs : List (List (List ℕ)) = replicate (length rows) [] in
    let s : length outs ≡ length rows = length-replicate {A = List (List ℕ)} (length rows) [] in
    let m = no_more path (upto 0 outs) (λ i j x a b. let e : Some (On i) ≡ Some (On j) = sym (right.to i x a) ∙ right.to j x b in cc (e))
    (λ x h. let p = at_in path x h in let b = at_short marks x (On p.0) (right.to p.0 x p.1) in let z = right.size in upto_has 0 outs x (omega arith) (omega arith)) in
    let l = upto_length 0 outs in omega arith

ahead_on : (marks : List NodeMark) (y place : ℕ) → slice_get marks y ≡ Some Ahead → suc (ahead (set marks y (On place))) ≡ ahead marks
ahead_on [] y place e = absurd (none-some Ahead e)
ahead_on (m ∷ marks) zero place e = (let h : m ≡ Ahead = same_Some m Ahead e in subst (λ (z : NodeMark). suc (ahead marks) ≡ ahead (z ∷ marks)) (sym h) refl)
ahead_on (Ahead ∷ marks) (suc y) place e = ap suc (ahead_on marks y place e)
ahead_on (On p ∷ marks) (suc y) place e = ahead_on marks y place e
ahead_on (Known b ∷ marks) (suc y) place e = ahead_on marks y place e

ahead_known : (marks : List NodeMark) (x : ℕ) (m : NodeMark) (round : Bool) → slice_get marks x ≡ Some m → m ≢ Ahead → ahead (set marks x (Known round)) ≡ ahead marks
ahead_known [] x m round e ne = absurd (none-some m e)
ahead_known (Ahead ∷ marks) zero m round e ne = absurd (ne (sym (same_Some Ahead m e)))
ahead_known (On p ∷ marks) zero m round e ne = refl
ahead_known (Known b ∷ marks) zero m round e ne = refl
ahead_known (Ahead ∷ marks) (suc x) m round e ne = ap suc (ahead_known marks x m round e ne)
ahead_known (On p ∷ marks) (suc x) m round e ne = ahead_known marks x m round e ne
ahead_known (Known b ∷ marks) (suc x) m round e ne = ahead_known marks x m round e ne

one_less : (a a' b : ℕ) → suc a' ≡ a → a * b ≡ b + a' * b
one_less a a' b e = ap (λ (z : ℕ). z * b) (sym e) ∙ suc-mul a' b ∙ (let q : a' * b + b ≡ b + a' * b = omega arith in q)

pub entering_less : (rows : List (List ℕ)) (marks : List NodeMark) (edges edges' row : List ℕ) (parts parts' : List PathPart) (y place : ℕ) → slice_get marks y ≡ Some Ahead → row ≡ get_or rows y []
    → edges' ≡ edges ++ row → length parts' ≡ length parts + 1
    → to_do rows (set marks y (On place)) edges' parts' < to_do rows marks edges parts
entering_less rows marks edges edges' row parts parts' y place new er ee lp =
    let a = ahead_on marks y place new in
    let m = one_less (ahead marks) (ahead (set marks y (On place))) (sum_by (λ (r : List ℕ). length r) rows + 2) a in
    let l : length edges' ≡ length edges + length row = ap (λ (z : List ℕ). length z) ee ∙ length-append edges row in
    let r : length row ≤ sum_by (λ (r : List ℕ). length r) rows = subst (λ (z : List ℕ). length z ≤ sum_by (λ (r : List ℕ). length r) rows) (sym er) (row_most rows y) in
    omega arith

pub entered_as : (rows : List (List ℕ)) (marks : List NodeMark) (path path' edges edges' row : List ℕ) (parts parts' : List PathPart) (y a b : ℕ) → slice_get marks y ≡ Some Ahead
    → row ≡ get_or rows y [] → ((x : ℕ) → Among path x → (n : ℕ) × Walk (Edge rows) x n y)
    → path' ≡ path ++ (y ∷ []) → edges' ≡ edges ++ row → a ≡ length path → b ≡ length edges → parts' ≡ parts ++ (record { start = a; edges = b; round = false } ∷ [])
    → Searching rows marks path edges parts → Searching rows (set marks y (On a)) path' edges' parts'
entered_as rows marks path path' edges edges' row parts parts' y a b new er led ep ee ea eb eq s = rw (ep, ee, eq, ea, eb) (entered rows marks path edges row parts y new er s.right led s)

pub goes_on : (marks : List NodeMark) (y place : ℕ) → slice_get marks y ≡ Some Ahead → NoneMoreAhead marks (set marks y (On place))
goes_on marks y place new x e = elim (eqb_tells x y) [
  | inl h ↦ (let k : Some (On place) ≡ Some Ahead = sym (set_at marks y (On place) (at_short marks y Ahead new)) ∙ ap (λ (w : ℕ). slice_get (set marks y (On place)) w) (sym h.1)
      ∙ e in absurd (cc (k)))
  | inr h ↦ sym (set_other marks y x (On place) h.1) ∙ e
]

pub not_ahead : (marks : List NodeMark) (y place : ℕ) → slice_get marks y ≡ Some Ahead → slice_get (set marks y (On place)) y ≢ Some Ahead
not_ahead marks y place new e = let k : Some (On place) ≡ Some Ahead = sym (set_at marks y (On place) (at_short marks y Ahead new)) ∙ e in cc (k)

-- nodes leave the path

pub leaving_there : (old : List NodeMark) (from : List ℕ) (marks : List NodeMark) (path path' : List ℕ) (round : Bool) (x : ℕ) → path ≡ path' ++ (x ∷ [])
    → ((i z : ℕ) → slice_get from i ≡ Some z → slice_get old z ≡ Some (On i)) → Leaving old from marks path round
    → (slice_get old x ≡ Some (On (length path'))) × (x < length marks)
leaving_there old from marks path path' round x e on l =
    let w : from ≡ path' ++ (x ∷ l.left) = l.whole ∙ ap (λ (z : List ℕ). z ++ l.left) e ∙ append_assoc path' (x ∷ []) l.left in
    let p : slice_get from (length path') ≡ Some x = subst (λ (z : List ℕ). slice_get z (length path') ≡ Some x) (sym w) (middle path' x l.left) in
    let o = on (length path') x p in
    (o, (let s = at_short old x (On (length path')) o in let z = l.size in omega arith))
  where
    middle : (xs : List ℕ) (y : ℕ) (ys : List ℕ) → slice_get (xs ++ (y ∷ ys)) (length xs) ≡ Some y
    middle [] y ys = refl
    middle (z ∷ xs) y ys = middle xs y ys

pub leaving_on : (old : List NodeMark) (from : List ℕ) (marks : List NodeMark) (path path' : List ℕ) (round : Bool) (x : ℕ) → path ≡ path' ++ (x ∷ []) → x < length marks
    → Leaving old from marks path round → Leaving old from (set marks x (Known round)) path' round
leaving_on old from marks path path' round x e there l = record {
  left = x ∷ l.left;
  whole = l.whole ∙ ap (λ (z : List ℕ). z ++ l.left) e ∙ append_assoc path' (x ∷ []) l.left;
  size = set_size marks x (Known round) ∙ l.size;
  on = λ z m. elim (eqb_tells z x) [
    | inl h ↦ subst (λ (w : ℕ). slice_get (set marks x (Known round)) w ≡ Some (Known round)) (sym h.1) (set_at marks x (Known round) there)
    | inr h ↦ elim m [ inl q ↦ absurd (h.1 (sym q)) | inr q ↦ set_other marks x z (Known round) h.1 ∙ l.on z q ]
  ];
  off = λ z m. set_other marks x z (Known round) (λ h. m (inl (sym h))) ∙ l.off z (λ a. m (inr a));
}

pub leaving_count : (old : List NodeMark) (from : List ℕ) (marks : List NodeMark) (path : List ℕ) (round : Bool) (x i : ℕ) → slice_get old x ≡ Some (On i) → Leaving old from marks path round
    → ahead (set marks x (Known round)) ≡ ahead marks
leaving_count old from marks path round x i o l = elim (among_or_not l.left x) [
  | inl m ↦ ahead_known marks x (Known round) round (l.on x m) (λ e. cc (e))
  | inr m ↦ ahead_known marks x (On i) round (l.off x m ∙ o) (λ e. cc (e))
]

-- parts are joined

pub joins_begin : (rows : List (List ℕ)) (marks : List NodeMark) (path edges rest : List ℕ) (parts : List PathPart) (part : PathPart) (y : ℕ) → edges ≡ rest ++ (y ∷ []) → part.edges ≢ length edges
    → TakenOff rows marks path edges parts part
    → Joining rows marks path rest parts part.start part.edges y
joins_begin rows marks path edges rest parts part y e some t =
    let s = t.splits in
    let l : length edges ≡ length (edges_of s.layers) + length s.last = ap (λ (z : List ℕ). length z) s.edges_is ∙ length-append (edges_of s.layers) s.last in
    let more : 0 < length s.last = elim (cases_lt 0 (length s.last)) [ inl a ↦ a | inr a ↦ absurd (some (let f = s.from_is in omega arith)) ] in
    let r = last_of (edges_of s.layers) s.last rest y more (sym s.edges_is ∙ e) in
    let source = t.here.sources y (subst (λ (w : List ℕ). Among w y) (sym r.1) (has_right r.0 (y ∷ []) y (inl refl))) in
    record {
      splits = record {
        nodes = s.nodes;
        last = r.0;
        layers = s.layers;
        path_is = s.path_is;
        edges_is = r.2;
        parts_is = s.parts_is;
        start_is = s.start_is;
        from_is = s.from_is;
        fit = s.fit;
      };
      first = t.here.first;
      reached = t.here.reached;
      sources = λ z m. t.here.sources z (subst (λ (w : List ℕ). Among w z) (sym r.1) (has_left r.0 (y ∷ []) z m));
      told = λ x z m g. elim (t.here.told x z m g) [
        | inl k ↦ inl k
        | inr k ↦ elim k [
          | inr a ↦ inr (inr (inr a.0))
          | inl a ↦ elim (in_either r.0 (y ∷ []) z (subst (λ (w : List ℕ). Among w z) r.1 a)) [
            | inl b ↦ inr (inr (inl b))
            | inr b ↦ inr (inl (elim b [ inl q ↦ sym q | inr q ↦ absurd q ]))
          ]
        ]
      ];
      closes = λ x m. (let w = within rows marks (path_of s.layers) s.nodes s.last part.round t.here x source.0 m source.1 in
          any_join (Edge rows) x w.0 source.0 0 y w.1 (one_step (Edge rows) source.0 y source.2));
      opens = λ m z k. within rows marks (path_of s.layers) s.nodes s.last part.round t.here y z m k;
    }

-- the part before is joined to them
pub joins_on : (rows : List (List ℕ)) (marks : List NodeMark) (path edges : List ℕ) (parts before : List PathPart) (part : PathPart) (start from y place : ℕ) → parts ≡ before ++ (part ∷ [])
    → place < start → AreRight rows marks path → slice_get marks y ≡ Some (On place)
    → Joining rows marks path edges parts start from y → Joining rows marks path edges before part.start part.edges y
joins_on rows marks path edges parts before part start from y place e lt right on j = go s.layers s.path_is s.edges_is (sym e ∙ s.parts_is) s.start_is s.fit j.reached
  where
    s : Splits rows marks path edges parts start from
    s = j.splits

    go : (layers : List Layer) → path ≡ path_of layers ++ s.nodes → edges ≡ edges_of layers ++ s.last → before ++ (part ∷ []) ≡ parts_of layers → start ≡ length (path_of layers)
        → AllFit rows marks layers
        → ((x z : ℕ) → Among (path_of layers) x → Among s.nodes z → (n : ℕ) × Walk (Edge rows) x n z) → Joining rows marks path edges before part.start part.edges y
    go [] ep ee pe es f reached = (let l : length (before ++ (part ∷ [])) ≡ 0 = ap (λ (w : List PathPart). length w) pe in let k = length-append before (part ∷ [])
        in let bad : ⊥ = omega arith in absurd bad)
    go (l ∷ ls) ep ee pe es f reached =
        let r = same_ends before (parts_of ls) part (record { start = length (path_of ls); edges = length (edges_of ls); round = l.round }) pe in
        let behind : Among s.nodes y → ⊥ = λ m. (let i = at_in s.nodes y m in
        let p : slice_get path (start + i.0) ≡ Some y = subst (λ (w : List ℕ). slice_get w (start + i.0) ≡ Some y) (sym ep)
        (subst (λ (w : ℕ). slice_get ((path_of ls ++ l.nodes) ++ s.nodes) (w + i.0) ≡ Some y) (sym es) (further (path_of ls ++ l.nodes) s.nodes i.0 y i.1)) in
        let q : Some (On (start + i.0)) ≡ Some (On place) = sym (right.to (start + i.0) y p) ∙ on in
        let h : start + i.0 ≡ place = cc (q) in let bad : ⊥ = omega arith in bad) in
        let inner = within rows marks (path_of ls) l.nodes l.edges l.round f.0 in
        record {
          splits = record {
            nodes = l.nodes ++ s.nodes;
            last = l.edges ++ s.last;
            layers = ls;
            path_is = ep ∙ append_assoc (path_of ls) l.nodes s.nodes;
            edges_is = ee ∙ append_assoc (edges_of ls) l.edges s.last;
            parts_is = r.0;
            start_is = ap (λ (z : PathPart). z.start) r.1;
            from_is = ap (λ (z : PathPart). z.edges) r.1;
            fit = f.1;
          };
          first = (f.0.first.0, has_left l.nodes s.nodes f.0.first.0 f.0.first.1);
          reached = λ x z a b. elim (in_either l.nodes s.nodes z b) [
            | inl c ↦ f.0.reached x z a c
            | inr c ↦ reached x z (has_left (path_of ls) l.nodes x a) c
          ];
          sources = λ z m. elim (in_either l.edges s.last z m) [
            | inl a ↦ (let k = f.0.sources z a in (k.0, has_left l.nodes s.nodes k.0 k.1, k.2))
            | inr a ↦ (let k = j.sources z a in (k.0, has_right l.nodes s.nodes k.0 k.1, k.2))
          ];
          told = λ x z m g. elim (in_either l.nodes s.nodes x m) [
            | inl a ↦ elim (f.0.told x z a g) [
              | inl k ↦ inl k
              | inr k ↦ elim k [ inl b ↦ inr (inr (inl (has_left l.edges s.last z b))) | inr b ↦ inr (inr (inr (has_left l.nodes s.nodes z b.0))) ]
            ]
            | inr a ↦ elim (j.told x z a g) [
              | inl k ↦ inl k
              | inr k ↦ elim k [
                | inl q ↦ inr (inl q)
                | inr b ↦ elim b [ inl q ↦ inr (inr (inl (has_right l.edges s.last z q))) | inr q ↦ inr (inr (inr (has_right l.nodes s.nodes z q))) ]
              ]
            ]
          ];
          closes = λ x m. elim (in_either l.nodes s.nodes x m) [
            | inr a ↦ j.closes x a
            | inl a ↦ (let w = reached x j.first.0 (has_right (path_of ls) l.nodes x a) j.first.1 in let c = j.closes j.first.0 j.first.1 in any_join (Edge rows) x w.0 j.first.0 c.0 y w.1 c.1)
          ];
          opens = λ m z k. elim (in_either l.nodes s.nodes y m) [
            | inr a ↦ absurd (behind a)
            | inl a ↦ elim (in_either l.nodes s.nodes z k) [
              | inl b ↦ inner y z a b
              | inr b ↦ reached y z (has_right (path_of ls) l.nodes y a) b
            ]
          ];
        }
      where
        further : (xs ys : List ℕ) (i x : ℕ) → slice_get ys i ≡ Some x → slice_get (xs ++ ys) (length xs + i) ≡ Some x
        further [] ys i x h = (let q : 0 + i ≡ i = omega arith in subst (λ (w : ℕ). slice_get ys w ≡ Some x) (sym q) h)
        further (z ∷ xs) ys i x h = (let q : suc (length xs) + i ≡ suc (length xs + i) = omega arith in subst (λ (w : ℕ). slice_get (z ∷ xs ++ ys) w ≡ Some x) (sym q) (further xs ys i x h))

-- where no part is left they begin the path
pub joins_all : (rows : List (List ℕ)) (marks : List NodeMark) (path edges : List ℕ) (parts : List PathPart) (start from y : ℕ) → parts ≡ [] → Joining rows marks path edges parts start from y
    → start ≡ 0
joins_all rows marks path edges parts start from y e j = go j.splits.layers (sym e ∙ j.splits.parts_is) j.splits.start_is
  where
    go : (layers : List Layer) → [] ≡ parts_of layers → start ≡ length (path_of layers) → start ≡ 0
    go [] pe es = es
    go (l ∷ ls) pe es = (let k = length-append (parts_of ls) (record { start = length (path_of ls); edges = length (edges_of ls); round = l.round } ∷ []) in let z : 0 ≡ length (parts_of (l ∷ ls)) = ap
        (λ (w : List PathPart). length w) pe in let bad : ⊥ = omega arith in absurd bad)

pub joins_end : (rows : List (List ℕ)) (marks : List NodeMark) (path edges : List ℕ) (parts parts' : List PathPart) (start from y place : ℕ)
    → parts' ≡ parts ++ (record { start = start; edges = from; round = true } ∷ []) → start ≤ place → AreRight rows marks path
    → slice_get marks y ≡ Some (On place) → Joining rows marks path edges parts start from y → Searching rows marks path edges parts'
joins_end rows marks path edges parts parts' start from y place e le right on j =
    let s = j.splits in
    let p = right.from y place on in
    let here : Among s.nodes y = later (path_of s.layers) s.nodes place y (subst (λ (w : List ℕ). slice_get w place ≡ Some y) s.path_is p) (let z = s.start_is in omega arith) in
    put_on rows marks path edges parts' parts (record { start = start; edges = from; round = true }) e right record {
      splits = s;
      here = record {
        first = j.first;
        reached = j.reached;
        around = λ t x z a b. (let c = j.closes x a in let o = j.opens here z b in some_join (Edge rows) x c.0 y o.0 z c.1 o.1);
        one = λ t. absurd (cc (t));
        sources = j.sources;
        told = λ x z m g. elim (j.told x z m g) [
          | inl k ↦ inl k
          | inr k ↦ elim k [
            | inl q ↦ inr (inr (subst (λ (w : ℕ). Among s.nodes w) (sym q) here, refl))
            | inr b ↦ elim b [ inl q ↦ inr (inl q) | inr q ↦ inr (inr (q, refl)) ]
          ]
        ];
      };
    }
  where
    later : (xs ys : List ℕ) (i x : ℕ) → slice_get (xs ++ ys) i ≡ Some x → length xs ≤ i → Among ys x
    later [] ys i x h le = in_at ys i x h
    later (z ∷ xs) ys zero x h le = let bad : ⊥ = omega arith in absurd bad
    later (z ∷ xs) ys (suc i) x h le = later xs ys i x h (omega arith)

-- a part of which no edge is left leaves the path

walk_stays : (rows : List (List ℕ)) (marks : List NodeMark) → ((x y : ℕ) → CycleIsKnown marks x → Edge rows x y → CycleIsKnown marks y) → (x n y : ℕ) → CycleIsKnown marks x → Walk (Edge rows) x n y
    → CycleIsKnown marks y
walk_stays rows marks closed x _ _ k (Here _) = k
walk_stays rows marks closed x _ y k (Further _ j _ n e w) = walk_stays rows marks closed j n y (closed x j k e) w

pub left_path : (rows : List (List ℕ)) (old marks : List NodeMark) (path path' edges : List ℕ) (parts : List PathPart) (part : PathPart) → length edges ≡ part.edges → AreRight rows old path
    → TakenOff rows old path edges parts part → Leaving old path marks path' part.round
    → length path' ≡ part.start → Searching rows marks path' edges parts
left_path rows old marks path path' edges parts part none right t l short = record {
  layers = s.layers;
  path_is = same.0;
  edges_is = edges_same;
  parts_is = s.parts_is;
  fit = keeps_all rows old marks s.layers knows s.fit;
  right = record {
    size = l.size ∙ right.size;
    to = λ i x e. (let o = right.to i x (lower i x e) in l.off x (λ m. let k = apart x m i e in k) ∙ o);
    from = λ x i e. elim (among_or_not l.left x) [
      | inl m ↦ (let k : Some (Known part.round) ≡ Some (On i) = sym (l.on x m) ∙ e in absurd (cc (k)))
      | inr m ↦ (let p = right.from x i (sym (l.off x m) ∙ e) in elim (before path' l.left i x (subst (λ (w : List ℕ). slice_get w i ≡ Some x) l.whole p)) [ inl a ↦ a | inr a ↦ absurd (m a) ])
    ];
    closed = λ x y k e. elim (among_or_not l.left x) [
      | inl m ↦ told x y m e
      | inr m ↦ knows y (right.closed x y (k.0, sym (l.off x m) ∙ k.1) e)
    ];
    yes = λ x e. elim (among_or_not l.left x) [
      | inl m ↦ (let k : Some (Known part.round) ≡ Some (Known true) = sym (l.on x m) ∙ e in let r : part.round ≡ true = cc (k) in t.here.around r x x (mine x m) (mine x m))
      | inr m ↦ right.yes x (sym (l.off x m) ∙ e)
    ];
    not = λ x e. elim (among_or_not l.left x) [
      | inl m ↦ (let k : Some (Known part.round) ≡ Some (Known false) = sym (l.on x m) ∙ e in let r : part.round ≡ false = cc (k) in single x m r)
      | inr m ↦ right.not x (sym (l.off x m) ∙ e)
    ];
  };
}
  where
    s : Splits rows old path edges parts part.start part.edges
    s = t.splits

    same : (path' ≡ path_of s.layers) × (l.left ≡ s.nodes)
    same = same_parts path' (path_of s.layers) l.left s.nodes (short ∙ s.start_is) (sym l.whole ∙ s.path_is)

    mine : (x : ℕ) → Among l.left x → Among s.nodes x
    mine x m = subst (λ (w : List ℕ). Among w x) same.1 m

    nothing : s.last ≡ []
    nothing = empty s.last (let a : length edges ≡ length (edges_of s.layers) + length s.last = ap (λ (z : List ℕ). length z) s.edges_is
        ∙ length-append (edges_of s.layers) s.last in let f = s.from_is in omega arith)
      where
        empty : (xs : List ℕ) → length xs ≡ 0 → xs ≡ []
        empty [] e = refl
        empty (x ∷ xs) e = let bad : ⊥ = omega arith in absurd bad

    edges_same : edges ≡ edges_of s.layers
    edges_same = s.edges_is ∙ ap (λ (z : List ℕ). edges_of s.layers ++ z) nothing ∙ append-nil (edges_of s.layers)

    lower : (i x : ℕ) → slice_get path' i ≡ Some x → slice_get path i ≡ Some x
    lower i x e = subst (λ (w : List ℕ). slice_get w i ≡ Some x) (sym l.whole) (front path' l.left i x e)
      where
        front : (xs ys : List ℕ) (i x : ℕ) → slice_get xs i ≡ Some x → slice_get (xs ++ ys) i ≡ Some x
        front [] ys i x e = absurd (none-some x e)
        front (z ∷ xs) ys zero x e = e
        front (z ∷ xs) ys (suc i) x e = front xs ys i x e

    before : (xs ys : List ℕ) (i x : ℕ) → slice_get (xs ++ ys) i ≡ Some x → (slice_get xs i ≡ Some x) ⊎ Among ys x
    before [] ys i x e = inr (in_at ys i x e)
    before (z ∷ xs) ys zero x e = inl e
    before (z ∷ xs) ys (suc i) x e = before xs ys i x e

    behind : (xs ys : List ℕ) (i x : ℕ) → slice_get ys i ≡ Some x → slice_get (xs ++ ys) (length xs + i) ≡ Some x
    behind [] ys i x h = (let q : 0 + i ≡ i = omega arith in subst (λ (w : ℕ). slice_get ys w ≡ Some x) (sym q) h)
    behind (z ∷ xs) ys i x h = (let q : suc (length xs) + i ≡ suc (length xs + i) = omega arith in subst (λ (w : ℕ). slice_get (z ∷ xs ++ ys) w ≡ Some x) (sym q) (behind xs ys i x h))

    place_of : (x : ℕ) → Among l.left x → (i : ℕ) × (slice_get old x ≡ Some (On i)) × (length path' ≤ i)
    place_of x m = let i = at_in l.left x m in
        let p = subst (λ (w : List ℕ). slice_get w (length path' + i.0) ≡ Some x) (sym l.whole) (behind path' l.left i.0 x i.1) in
        (length path' + i.0, right.to (length path' + i.0) x p, omega arith)

    apart : (x : ℕ) → Among l.left x → (i : ℕ) → slice_get path' i ≡ Some x → ⊥
    apart x m i e = let a = place_of x m in let b = right.to i x (lower i x e) in let k : Some (On a.0) ≡ Some (On i) = sym a.1 ∙ b in let h : a.0 ≡ i = cc (k) in let c =
        at_short path' i x e in let d = a.2 in let bad : ⊥ = omega arith in bad

    knows : Knows old marks
    knows x k = (k.0, l.off x (λ m. let a = place_of x m in let q : Some (On a.0) ≡ Some (Known k.0) = sym a.1 ∙ k.1 in cc (q)) ∙ k.1)

    told : (x y : ℕ) → Among l.left x → Edge rows x y → CycleIsKnown marks y
    told x y m e = elim (t.here.told x y (mine x m) e) [
      | inl k ↦ knows y k
      | inr k ↦ elim k [
        | inl a ↦ absurd (let bad : Among [] y = subst (λ (w : List ℕ). Among w y) nothing a in bad)
        | inr a ↦ (part.round, l.on y (subst (λ (w : List ℕ). Among w y) (sym same.1) a.0))
      ]
    ]

    single : (x : ℕ) → Among l.left x → part.round ≡ false → IsOnCycle (Edge rows) x → ⊥
    single x m r c = first c.0 c.1
      where
        first : (n : ℕ) → Walk (Edge rows) x (suc n) x → ⊥
        first n (Further _ j _ _ e w) = elim (t.here.told x j (mine x m) e) [
          | inl k ↦ (let z = walk_stays rows old right.closed j n x k w in let a = place_of x m in let q : Some (On a.0) ≡ Some (Known z.0) = sym a.1 ∙ z.1 in cc (q))
          | inr k ↦ elim k [
            | inl a ↦ (let bad : Among [] j = subst (λ (w : List ℕ). Among w j) nothing a in bad)
            | inr a ↦ (let q : true ≡ false = sym a.1 ∙ r in cc (q))
          ]
        ]

-- all of the path leads to where an edge of the last part leads
pub led_to : (rows : List (List ℕ)) (marks : List NodeMark) (path edges rest : List ℕ) (parts : List PathPart) (part : PathPart) (y : ℕ) → edges ≡ rest ++ (y ∷ []) → part.edges ≢ length edges
    → TakenOff rows marks path edges parts part → (x : ℕ) → Among path x → (n : ℕ) × Walk (Edge rows) x n y
led_to rows marks path edges rest parts part y e some t x m =
    let j = joins_begin rows marks path edges rest parts part y e some t in
    let s = j.splits in
    elim (in_either (path_of s.layers) s.nodes x (subst (λ (w : List ℕ). Among w x) s.path_is m)) [
      | inr a ↦ (let c = j.closes x a in (suc c.0, c.1))
      | inl a ↦ (let w = j.reached x j.first.0 a j.first.1 in let c = j.closes j.first.0 j.first.1 in let r = any_join (Edge rows) x w.0 j.first.0 c.0 y w.1 c.1 in (suc r.0, r.1))
    ]

-- the search begins and ends

pub begins : (rows : List (List ℕ)) (marks : List NodeMark) (path edges : List ℕ) (parts : List PathPart) → marks ≡ replicate (length rows) Ahead → path ≡ [] → edges ≡ [] → parts ≡ []
    → Searching rows marks path edges parts
begins rows marks path edges parts em ep ee eq = rw (em, ep, ee, eq) record {
  layers = [];
  path_is = refl;
  edges_is = refl;
  parts_is = refl;
  fit = tt;
  right = record {
    size = length-replicate (length rows) Ahead;
    to = λ i x e. absurd (none-some x e);
    from = λ x i e. (let k = all x (On i) e in absurd (cc (k)));
    closed = λ x y k e. (let h = all x (Known k.0) k.1 in absurd (cc (h)));
    yes = λ x e. (let h = all x (Known true) e in absurd (cc (h)));
    not = λ x e. (let h = all x (Known false) e in absurd (cc (h)));
  };
}
  where
    all_ahead : (count x : ℕ) (m : NodeMark) → slice_get (replicate count Ahead) x ≡ Some m → Ahead ≡ m
    all_ahead zero x m e = absurd (none-some m e)
    all_ahead (suc count) zero m e = same_Some Ahead m e
    all_ahead (suc count) (suc x) m e = all_ahead count x m e

    all : (x : ℕ) (m : NodeMark) → slice_get (replicate (length rows) Ahead) x ≡ Some m → Ahead ≡ m
    all x m e = all_ahead (length rows) x m e

pub path_ends : (rows : List (List ℕ)) (marks : List NodeMark) (path edges : List ℕ) (parts : List PathPart) → parts ≡ [] → Searching rows marks path edges parts → path ≡ []
path_ends rows marks path edges parts e s = go s.layers (sym e ∙ s.parts_is) s.path_is
  where
    go : (layers : List Layer) → [] ≡ parts_of layers → path ≡ path_of layers → path ≡ []
    go [] pe ep = ep
    go (l ∷ ls) pe ep = (let k = length-append (parts_of ls) (record { start = length (path_of ls); edges = length (edges_of ls); round = l.round } ∷ []) in let z : 0 ≡ length (parts_of (l ∷ ls)) = ap
        (λ (w : List PathPart). length w) pe in let bad : ⊥ = omega arith in absurd bad)

-- reading the last edge

pub some_edges : (rows : List (List ℕ)) (marks : List NodeMark) (path edges : List ℕ) (parts : List PathPart) (part : PathPart) → part.edges ≢ length edges → TakenOff rows marks path edges parts part
    → 0 < length edges
some_edges rows marks path edges parts part some t =
    let l : length edges ≡ length (edges_of t.splits.layers) + length t.splits.last = ap (λ (z : List ℕ). length z) t.splits.edges_is ∙ length-append (edges_of t.splits.layers) t.splits.last in
    let f = t.splits.from_is in
    elim (cases_lt 0 (length edges)) [ inl a ↦ a | inr a ↦ absurd (some (omega arith)) ]

pub last_read : (xs : List ℕ) (n y : ℕ) → n + 1 ≡ length xs → y ≡ get_or xs n y → xs ≡ take n xs ++ (y ∷ [])
last_read xs n y l e = sym (take_all (n + 1) xs (omega arith)) ∙ take_on xs n y (reads_at xs n y y (omega arith) (sym e))

pub edge_there : (rows : List (List ℕ)) (marks : List NodeMark) (path edges rest : List ℕ) (parts : List PathPart) (part : PathPart) (y : ℕ) → ((x z : ℕ) → Edge rows x z → z < length rows)
    → edges ≡ rest ++ (y ∷ []) → part.edges ≢ length edges → TakenOff rows marks path edges parts part → y < length rows
edge_there rows marks path edges rest parts part y inside e some t =
    let s = t.splits in
    let l : length edges ≡ length (edges_of s.layers) + length s.last = ap (λ (z : List ℕ). length z) s.edges_is ∙ length-append (edges_of s.layers) s.last in
    let more : 0 < length s.last = elim (cases_lt 0 (length s.last)) [ inl a ↦ a | inr a ↦ absurd (some (let f = s.from_is in omega arith)) ] in
    let r = last_of (edges_of s.layers) s.last rest y more (sym s.edges_is ∙ e) in
    let source = t.here.sources y (subst (λ (w : List ℕ). Among w y) (sym r.1) (has_right r.0 (y ∷ []) y (inl refl))) in
    inside source.0 y source.2

-- where the path is empty a node that was come to is known
pub known_then : (rows : List (List ℕ)) (marks : List NodeMark) (path : List ℕ) (v : ℕ) (m : NodeMark) → AreRight rows marks path → path ≡ [] → slice_get marks v ≢ Some Ahead
    → slice_get marks v ≡ Some m → (m ≡ Ahead) ⊎ ((x : ℕ) × (m ≡ On x)) → ⊥
known_then rows marks path v m right e come is (inl a) = come (is ∙ ap Some a)
known_then rows marks path v m right e come is (inr on) = (let p = right.from v on.0 (is ∙ ap Some on.1) in none-some v (subst (λ (w : List ℕ). slice_get w on.0 ≡ Some v) e p))

pub ok_then : {A E : Type 0} (P Q : Type 0) (r : Result A E) → OnOk r P → (P → Q) → OnOk r Q
ok_then P Q (Ok a) h f = f h
ok_then P Q (Err e) h f = tt

-- where all numbers stand in the order none is on a cycle
pub none_on_cycle : (rows : List (List ℕ)) (order : List ℕ) → IsOrdered rows order → length order ≡ length rows → (k : ℕ) → IsOnCycle (Edge rows) k → ⊥
none_on_cycle rows order o e k c = elim (among_or_not order k) [
  | inl m ↦ (let p = at_in order k m in no_cycle rows order o p.0 k p.1 c)
  | inr out ↦ (
      let outs : List (List (List ℕ)) = replicate (length rows) [] in
      let s : length outs ≡ length rows = length-replicate {A = List (List ℕ)} (length rows) [] in
      let h = cycle_within rows k c in
      let m = no_more (order ++ (k ∷ [])) (upto 0 outs) (push_once order k o.once out)
      (λ x a. elim (in_either order (k ∷ []) x a) [
        | inl b ↦ (let p = at_in order x b in let w = o.within p.0 x p.1 in upto_has 0 outs x (omega arith) (omega arith))
        | inr b ↦ upto_has 0 outs x (omega arith) (elim b [ inl q ↦ (let z = q in omega arith) | inr q ↦ absurd q ])
      ]) in
      let l = upto_length 0 outs in let n = length-append order (k ∷ []) in let bad : ⊥ = omega arith in bad)
]
