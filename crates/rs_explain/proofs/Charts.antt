-- Steps that each go nearer to an end, by the first place that does, make the first way.
use Rattle.std.proofs.Common.{◌≡◌, inl, inr, ℕ, ◌<◌, ◌≤◌, ◌+◌, ◌-◌, suc, List, [], ◌∷◌, ◌++◌, length, get_or, slice_get, Option, Some, refl, sym, ap, subst, ◌∙◌, arith, append_assoc}
use Rattle.std.proofs.lemmas.Bool.{cases_lt}
use Rattle.std.proofs.lemmas.List.{append-nil}
use Rattle.std.proofs.lemmas.Option.{same_Some}
use Rattle.rs_derive.specs.Moves.{Spot}
use Rattle.rs_graph.proofs.Buckets.{got}
use Rattle.rs_graph.specs.Lists.{Among}
use Rattle.rs_explain.proofs.Spreading.{far_within}
use Rattle.rs_explain.proofs.Ways.{GoOn, IsWay, first_here, first_on, step, way_on}
use Rattle.rs_explain.specs.Distances.{IsNear, far_at}
use Rattle.rs_explain.specs.OnWay.{AreCharted, AreDownhill, GoNearer, IsFirstAt, IsStepTo}
use Rattle.rs_explain.specs.Walks.{IsFirst, WalkStep_data, end_of}

pub one_far : (far : List (Option ℕ)) (n d e : ℕ) → far_at far n ≡ Some d → far_at far n ≡ Some e → d ≡ e
one_far far n d e a b = same_Some d e (sym a ∙ b)

-- no way is shorter than the distance
pub way_far : (Goes : Spot → ℕ → Spot → Type 0) (Ends : Spot → Type 0) (spots : List Spot) (bases : ℕ → ℕ) (rows : List (List ℕ)) (far : List (Option ℕ)) → AreCharted Goes Ends spots bases rows far
    → (steps : List WalkStep_data) (n : ℕ) (x : Spot) → slice_get spots n ≡ Some x → IsWay Goes Ends x steps → IsNear far n (length steps)
way_far Goes Ends spots bases rows far c [] n x f w = (0, c.ends n x f w.ends, omega arith)
way_far Goes Ends spots bases rows far c (s ∷ later) n x f w =
    let k = c.named n s.place x s.spot f w.go.0 in
    let near = way_far Goes Ends spots bases rows far c later k.1 s.spot k.4 (record { go = w.go.1; ends = w.ends }) in
    let on = c.on n s.place k.0 k.1 near.0 x s.spot f w.go.0 k.3 near.1 in
    (on.0, on.1, (let a = near.2 in let b = on.2 in omega arith))

-- a step by the first place with the least distance, and then the first way, make the first of the walks that go so
pub first_step : (nexts : Spot → List Spot) (Goes : Spot → ℕ → Spot → Type 0) (Ends : Spot → Type 0) → ((p : Spot) (place : ℕ) (q : Spot) → Goes p place q → slice_get (nexts p) place ≡ Some q)
    → (spots : List Spot) (bases : ℕ → ℕ) (rows : List (List ℕ)) (far : List (Option ℕ)) → AreCharted Goes Ends spots bases rows far
    → (n d r e : ℕ) (x : Spot) (s : WalkStep_data) → slice_get spots n ≡ Some x → far_at far n ≡ Some e → IsStepTo spots (bases n) (get_or rows n []) far d r s
    → (Walks : List WalkStep_data → Type 0) → GoOn Goes Ends x Walks → (later : List WalkStep_data) → IsFirst (IsWay Goes Ends s.spot) later → length later ≡ d
    → ((others : List WalkStep_data) → Walks others → suc (length later) ≤ length others)
    → ((i k f : ℕ) → slice_get (get_or rows n []) i ≡ Some k → far_at far k ≡ Some f → d ≤ f)
    → IsFirst Walks (s ∷ later)
first_step nexts Goes Ends by spots bases rows far c n d r e x s f h t Walks go later w size near least =
    first_on nexts Goes Ends by x Walks go s.place s.spot later goes w near before
  where
    goes : Goes x s.place s.spot
    goes = subst (λ (z : ℕ). Goes x z s.spot) (sym t.place_is) (c.goes n t.index r e x s.spot f h (t.first.stands ∙ ap Some t.number_is) t.spot_is)

    before : (i : ℕ) (y : Spot) (others : List WalkStep_data) → i < s.place → Goes x i y → IsWay Goes Ends y others → length later < length others
    before i y others lt g l =
        let k = c.named n i x y f g in
        let m = way_far Goes Ends spots bases rows far c others k.1 y k.4 l in
        let v = least k.0 k.1 m.0 k.3 m.1 in
        elim (cases_lt d m.0) [
          | inl less ↦ (let z = m.2 in omega arith)
          | inr le ↦ (let same : m.0 ≡ d = omega arith in
              let a = t.place_is in let b = k.2 in
              absurd (t.first.before k.0 k.1 (omega arith) k.3 (m.1 ∙ ap Some same)))
        ]

-- what steps that go nearer come to
pub record IsNearest (Goes : Spot → ℕ → Spot → Type 0) (Ends : Spot → Type 0) (spots : List Spot) (far : List (Option ℕ)) (n : ℕ) (x : Spot) (steps : List WalkStep_data) (last : ℕ) : Type 0 where
  pub first : IsFirst (IsWay Goes Ends x) steps
  pub size : far_at far n ≡ Some (length steps)
  pub stands : slice_get spots last ≡ Some (end_of x steps)

pub nearest : (nexts : Spot → List Spot) (Goes : Spot → ℕ → Spot → Type 0) (Ends : Spot → Type 0) → ((p : Spot) (place : ℕ) (q : Spot) → Goes p place q → slice_get (nexts p) place ≡ Some q)
    → (spots : List Spot) (bases : ℕ → ℕ) (rows : List (List ℕ)) (far : List (Option ℕ)) → AreCharted Goes Ends spots bases rows far
    → (steps : List WalkStep_data) (n last : ℕ) (x : Spot) → slice_get spots n ≡ Some x → GoNearer spots bases rows far n steps last
    → IsNearest Goes Ends spots far n x steps last
nearest nexts Goes Ends by spots bases rows far c [] n last x f g = record {
  first = first_here Goes Ends x (c.only n x f g.0);
  size = g.0;
  stands = ap (λ (z : ℕ). slice_get spots z) g.1 ∙ f;
}
nearest nexts Goes Ends by spots bases rows far c (s ∷ later) n last x f g =
    let d = g.0 in let r = g.1 in let h = g.2 in let t = g.3 in
    let k = nearest nexts Goes Ends by spots bases rows far c later r last s.spot t.spot_is g.4 in
    let size : length later ≡ d = one_far far r (length later) d k.size (ap (λ (z : ℕ). far_at far z) (sym t.number_is) ∙ t.first.far_is) in
    record {
      first = first_step nexts Goes Ends by spots bases rows far c n d r (suc d) x s f h t (IsWay Goes Ends x) (way_on Goes Ends x) later k.first size
          (λ others l. let m = way_far Goes Ends spots bases rows far c others n x f l in let v = one_far far n m.0 (suc d) m.1 h in let z = m.2 in omega arith)
          (λ i q e a b. let on = c.on n (bases n + t.index) i q e x s.spot f (c.goes n t.index r (suc d) x s.spot f h (t.first.stands ∙ ap Some t.number_is) t.spot_is) a b in
          let v = one_far far n on.0 (suc d) on.1 h in let z = on.2 in omega arith);
      size = h ∙ ap (λ (z : ℕ). Some (suc z)) (sym size);
      stands = k.stands;
    }

-- the walk that goes nearer, step by step

-- steps have come from one number to another, from which so many are left
pub record IsOnWay (spots : List Spot) (bases : ℕ → ℕ) (rows : List (List ℕ)) (far : List (Option ℕ)) (start : ℕ) (steps : List WalkStep_data) (node left : ℕ) : Type 0 where
  pub far_is : far_at far node ≡ Some left
  pub on : (later : List WalkStep_data) (last : ℕ) → GoNearer spots bases rows far node later last → GoNearer spots bases rows far start (steps ++ later) last

pub way_begins : (spots : List Spot) (bases : ℕ → ℕ) (rows : List (List ℕ)) (far : List (Option ℕ)) (start left : ℕ) → far_at far start ≡ Some left → IsOnWay spots bases rows far start [] start left
way_begins spots bases rows far start left h = record { far_is = h; on = λ later last g. g }

pub way_ends : (spots : List Spot) (bases : ℕ → ℕ) (rows : List (List ℕ)) (far : List (Option ℕ)) (start : ℕ) (steps : List WalkStep_data) (node left : ℕ) → IsOnWay spots bases rows far start steps node left
    → left ≤ 0 → GoNearer spots bases rows far start steps node
way_ends spots bases rows far start steps node left w le =
    let z : left ≡ 0 = omega arith in
    subst (λ (y : List WalkStep_data). GoNearer spots bases rows far start y node) (append-nil steps) (w.on [] node (w.far_is ∙ ap Some z, refl))

pub way_nearer : (spots : List Spot) (bases : ℕ → ℕ) (rows : List (List ℕ)) (far : List (Option ℕ)) (start : ℕ) (steps steps' : List WalkStep_data) (node left r : ℕ) (s : WalkStep_data)
    → IsOnWay spots bases rows far start steps node left → 0 < left → IsStepTo spots (bases node) (get_or rows node []) far (left - 1) r s → steps' ≡ steps ++ s ∷ []
    → IsOnWay spots bases rows far start steps' r (left - 1)
way_nearer spots bases rows far start steps steps' node left r s w lt t e = rw e record {
  far_is = ap (λ (z : ℕ). far_at far z) (sym t.number_is) ∙ t.first.far_is;
  on = λ later last g. (let z : left ≡ suc (left - 1) = omega arith in
      subst (λ (y : List WalkStep_data). GoNearer spots bases rows far start y last) (sym (append_assoc steps (s ∷ []) later))
      (w.on (s ∷ later) last (left - 1, r, w.far_is ∙ ap Some z, t, g)));
}

-- what a walk reads

pub node_short : (rows : List (List ℕ)) (far : List (Option ℕ)) (count node d : ℕ) → AreDownhill count rows far → far_at far node ≡ Some d → (node < count) × (node < length rows)
node_short rows far count node d h e = let k = far_within far node d e in let a = h.size in let b = h.rows_size in (omega arith, omega arith)

pub row_short : (rows : List (List ℕ)) (far : List (Option ℕ)) (count node r : ℕ) (row : List ℕ) → AreDownhill count rows far → slice_get rows node ≡ Some row → Among row r → (r < count) × (r < length far)
row_short rows far count node r row h e m =
    let k = h.within node r (subst (λ (z : List ℕ). Among z r) (sym (got rows node row [] e)) m) in
    let a = h.size in (k, omega arith)

pub row_tight : (spots : List Spot) (bases : ℕ → ℕ) (rows : List (List ℕ)) (far : List (Option ℕ)) (start : ℕ) (steps : List WalkStep_data) (count node left : ℕ) (row : List ℕ)
    → AreDownhill count rows far → IsOnWay spots bases rows far start steps node left → 0 < left → slice_get rows node ≡ Some row → (r : ℕ) × Among row r × (far_at far r ≡ Some (left - 1))
row_tight spots bases rows far start steps count node left row d w lt e =
    let s : left ≡ suc (left - 1) = omega arith in
    let t = d.tight node (left - 1) (w.far_is ∙ ap Some s) in
    (t.0, subst (λ (z : List ℕ). Among z t.0) (got rows node row [] e) t.1, t.2)

-- a step that was made
pub step_to : (spots : List Spot) (base : ℕ) (rows : List (List ℕ)) (far : List (Option ℕ)) (distance node place index m : ℕ) (row : List ℕ) (q : Spot) → slice_get rows node ≡ Some row
    → IsFirstAt far row distance index → slice_get row index ≡ Some m → slice_get spots m ≡ Some q → place ≡ base + index → IsStepTo spots base (get_or rows node []) far distance m (step place q)
step_to spots base rows far distance node place index m row q er a em fq ep = record {
  index = index;
  first = record {
    number = a.number;
    stands = subst (λ (z : List ℕ). slice_get z index ≡ Some a.number) (sym same) a.stands;
    far_is = a.far_is;
    before = λ i k lt g h. a.before i k lt (subst (λ (z : List ℕ). slice_get z i ≡ Some k) same g) h;
  };
  number_is = same_Some a.number m (sym a.stands ∙ em);
  place_is = ep;
  spot_is = fq;
}
  where
    same : get_or rows node [] ≡ row
    same = got rows node row [] er

pub way_goes : (spots : List Spot) (bases : ℕ → ℕ) (rows : List (List ℕ)) (far : List (Option ℕ)) (start : ℕ) (steps steps' : List WalkStep_data) (node left place index m : ℕ) (row : List ℕ) (q : Spot)
    → IsOnWay spots bases rows far start steps node left → 0 < left → slice_get rows node ≡ Some row → IsFirstAt far row (left - 1) index → slice_get row index ≡ Some m
    → slice_get spots m ≡ Some q → place ≡ bases node + index → steps' ≡ steps ++ step place q ∷ [] → IsOnWay spots bases rows far start steps' m (left - 1)
way_goes spots bases rows far start steps steps' node left place index m row q w lt er a em fq ep e =
    way_nearer spots bases rows far start steps steps' node left m (step place q) w lt (step_to spots (bases node) rows far (left - 1) node place index m row q er a em fq ep) e
