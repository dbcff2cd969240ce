-- The way round by the edges that keep the oldest act: each step goes nearer to the node from which it began.
use Rattle.std.proofs.Common.{◌≡◌, ◌⊎◌, inl, inr, ℕ, ◌<◌, ◌≤◌, ◌+◌, ◌-◌, zero, suc, Bool, true, false, List, [], ◌∷◌, ◌++◌, drop, length, get_or, set, replicate, slice_get, Option, Some, None, refl, sym, ap, subst, ◌∙◌, arith, nat_le, if◌then◌else◌}
use Rattle.std.proofs.lemmas.Bool.{cases_Bool, cases_eq, cases_lt, false≢true, leb-false, leb-true}
use Rattle.std.proofs.lemmas.List.{get_or_default, get_or_past, get_or-replicate, get_or-set_other, get_or-set_same, length-map, length-replicate}
use Rattle.std.proofs.Math.ListN.{drop_of_length-le}
use Rattle.std.proofs.lemmas.Option.{none-some, same_Some}
use Rattle.rs_model.specs.Data.{Machine_data}
use Rattle.rs_derive.specs.Moves.{Spot, spot}
use Rattle.rs_graph.proofs.Buckets.{got}
use Rattle.rs_graph.proofs.Growth.{at_in, at_short, at_within, in_at}
use Rattle.rs_graph.specs.Built.{IsBuilt}
use Rattle.rs_graph.specs.Graphs.{Graph_data}
use Rattle.rs_graph.specs.Lists.{Among}
use Rattle.rs_graph.specs.Removal.{at, edges_in}
use Rattle.rs_search.proofs.Determined.{one_canonical}
use Rattle.rs_search.specs.Canonical.{IsForgets}
use Rattle.rs_search.specs.Turns.{nexts_within}
use Rattle.rs_explain.proofs.Charts.{IsOnWay, first_step, nearest, step_to, way_begins, way_ends, way_far, way_nearer}
use Rattle.rs_explain.proofs.Existing.{row_from}
use Rattle.rs_explain.proofs.Keeping.{spot_at}
use Rattle.rs_explain.proofs.Nearest.{edges_within, row_to}
use Rattle.rs_explain.proofs.Forgetful.{Is, keep_by, round_on, some_round}
use Rattle.rs_explain.proofs.Spreading.{flag_within}
use Rattle.rs_explain.specs.Distances.{AreDistances, far_at, flag_at}
use Rattle.rs_explain.specs.Forgetting.{Forgetting_data, IsForgetting, IsKeepingStep, IsRound}
use Rattle.rs_explain.specs.KeptNodes.{AreKeptNodes, AreNumberedNodes, least_of, lesser, spots_at}
use Rattle.rs_explain.specs.OnWay.{AreCharted, IsFirstAt, IsStepTo}
use Rattle.rs_explain.specs.Walks.{IsFirst, WalkStep_data}

-- the flags

pub inside_all : (count n : ℕ) → n < count → flag_at (replicate count true) n ≡ true
inside_all count n lt = get_or-replicate count n true false lt

pub end_here : (count node : ℕ) → node < count → flag_at (set (replicate count false) node true) node ≡ true
end_here count node lt = get_or-set_same (replicate count false) node true false (let l = length-replicate {A = Bool} count false in omega arith)

pub end_only : (count node n : ℕ) → flag_at (set (replicate count false) node true) n ≡ true → n ≡ node
end_only count node n e = elim (cases_eq n node) [
  | inl same ↦ same
  | inr other ↦ absurd (false≢true (sym (none n) ∙ sym (get_or-set_other (replicate count false) node n true false other) ∙ e))
]
  where
    none : (n : ℕ) → flag_at (replicate count false) n ≡ false
    none n = elim (cases_lt n count) [
      | inl lt ↦ get_or-replicate count n false false lt
      | inr le ↦ get_or_past (replicate count false) n false (let l = length-replicate {A = Bool} count false in omega arith)
    ]

-- the chart of the edges

pub round_charted : (sub above : Machine_data) (bound : ℕ) (spots : List Spot) (items places : List ℕ) (rows : List (List ℕ)) (anys inside ends : List Bool) (g : Graph_data) (far : List (Option ℕ)) (node : ℕ)
    → AreKeptNodes sub above bound spots items places rows → IsBuilt anys rows (length rows) g → AreDistances g.outs inside ends far
    → inside ≡ replicate (length rows) true → ends ≡ set (replicate (length rows) false) node true → node < length items
    → (x : Spot) → slice_get (spots_at spots items) node ≡ Some x → AreCharted (IsKeepingStep sub above bound) (λ q. q ≡ x) (spots_at spots items) (λ n. at places n) rows far
round_charted sub above bound spots items places rows anys inside ends g far node k b dist ei ee lt x ex = record {
  downhill = record {
    rows_size = k.numbers.rows_size ∙ sym count;
    size = dist.steps.size ∙ b.size ∙ k.numbers.rows_size ∙ sym count;
    within = λ n r m. (let w = k.numbers.within n r m in let c = count in omega arith);
    tight = λ n e h. (let t = dist.steps.tight n e h in
        (t.1, row_from (get_or anys n false) (get_or rows n []) t.0 t.1 (subst (λ (z : List (List ℕ)). Among (get_or z t.0 []) t.1) (b.done n (known n (suc e) h)) t.2), t.3));
  };
  goes = λ n i r d y z f h a fz. k.goes n i r y z f a fz;
  named = λ n place y z f s. k.named n place y z f s;
  ends = λ n y f e. (let same : n ≡ node = once n y f e in
      dist.steps.begin n (subst (λ (z : ℕ). flag_at ends z ≡ true) (sym same) (subst (λ (z : List Bool). flag_at z node ≡ true) (sym ee) (end_here (length rows) node node_in))));
  only = λ n y f h. (let e = dist.steps.only n h in
      let same : n ≡ node = end_only (length rows) node n (subst (λ (z : List Bool). flag_at z n ≡ true) ee e) in
      same_Some y x (sym f ∙ ap (λ (z : ℕ). slice_get (spots_at spots items) z) same ∙ ex));
  on = λ n place i r d y z f s a h. (
      let w = at_short (spots_at spots items) n y f in let c = count in let rs = k.numbers.rows_size in
      let inn : n < length rows = omega arith in
      let m = row_to (get_or anys n false) (get_or rows n []) r (in_at (get_or rows n []) i r a) in
      dist.told r n m.0 d (subst (λ (z : List Bool). flag_at z n ≡ true) (sym ei) (inside_all (length rows) n inn))
      (subst (λ (z : List (List ℕ)). Among (get_or z m.0 []) r) (sym (b.done n inn)) m.1) h);
}
  where
    count : length (spots_at spots items) ≡ length items
    count = length-map items (λ (n : ℕ). get_or spots n (spot 0 [] 0))

    node_in : node < length rows
    node_in = let rs = k.numbers.rows_size in omega arith

    known : (n d : ℕ) → far_at far n ≡ Some d → n < length rows
    known n d h = let w = flag_within inside n (dist.steps.lie n d h) in
        let l : length inside ≡ length rows = ap (λ (z : List Bool). length z) ei ∙ length-replicate {A = Bool} (length rows) true in omega arith

    once : (n : ℕ) (y : Spot) → slice_get (spots_at spots items) n ≡ Some y → y ≡ x → n ≡ node
    once n y f e = k.canonical.once n node x (ap (λ (z : List Spot). slice_get z n) k.same ∙ f ∙ ap Some e) (ap (λ (z : List Spot). slice_get z node) k.same ∙ ex)

-- what the code has in hand
pub round_chart : (sub above : Machine_data) (bound : ℕ) (spots : List Spot) (items places : List ℕ) (rows : List (List ℕ)) (anys inside inside' ends ends' : List Bool) (rows' : List (List ℕ)) (g : Graph_data)
    (far : List (Option ℕ)) (node : ℕ) → AreKeptNodes sub above bound spots items places rows → IsBuilt anys rows' (length rows') g → rows' ≡ rows → AreDistances g.outs inside' ends' far
    → inside' ≡ inside → ends' ≡ ends → inside ≡ replicate (length rows) true → ends ≡ set (replicate (length rows) false) node true → node < length items
    → (x : Spot) → slice_get (spots_at spots items) node ≡ Some x → AreCharted (IsKeepingStep sub above bound) (λ q. q ≡ x) (spots_at spots items) (λ n. at places n) rows far
round_chart sub above bound spots items places rows anys inside inside' ends ends' rows' g far node k b er dist ei ee ri re lt x ex =
    round_charted sub above bound spots items places rows anys inside ends g far node k (subst (λ (z : List (List ℕ)). IsBuilt anys z (length z) g) er b)
    (subst (λ (z : List Bool). AreDistances g.outs inside z far) ee (subst (λ (z : List Bool). AreDistances g.outs z ends' far) ei dist)) ri re lt x ex

pub round_edges : (sub above : Machine_data) (bound : ℕ) (spots : List Spot) (items places : List ℕ) (rows rows' : List (List ℕ)) (anys : List Bool) (g : Graph_data)
    → AreKeptNodes sub above bound spots items places rows → IsBuilt anys rows' (length rows') g → rows' ≡ rows → edges_in g.outs < 18446744073709551616
round_edges sub above bound spots items places rows rows' anys g k b er =
    let b' : IsBuilt anys rows (length rows) g = subst (λ (z : List (List ℕ)). IsBuilt anys z (length z) g) er b in
    let e = edges_within rows anys g b' k.numbers.short in
    let s = b'.size in let r = k.numbers.rows_size in let f = k.numbers.few in omega arith

-- the least distance of a row

pub least_none : (far : List (Option ℕ)) (row : List ℕ) (least : Option ℕ) → least_of far least row ≡ None → (least ≡ None) × ((i r d : ℕ) → slice_get row i ≡ Some r → far_at far r ≡ Some d → ⊥)
least_none far [] least e = (e, λ i r d a h. none-some r a)
least_none far (q ∷ row) least e =
    let k = least_none far row (lesser least (far_at far q)) e in
    let b = both least (far_at far q) k.0 in
    (b.0, none b.1 k.1)
  where
    both : (a b : Option ℕ) → lesser a b ≡ None → (a ≡ None) × (b ≡ None)
    both None b e = (refl, e)
    both (Some d) None e = absurd (none-some d (sym e))
    both (Some d) (Some f) e = elim (cases_Bool (nat_le d f)) [
      | inl y ↦ (let z : Some d ≡ None = subst (λ (b : Bool). (if b then Some d else Some f) ≡ None) y e in absurd (none-some d (sym z)))
      | inr n ↦ (let z : Some f ≡ None = subst (λ (b : Bool). (if b then Some d else Some f) ≡ None) n e in absurd (none-some f (sym z)))
    ]

    none : far_at far q ≡ None → ((i r d : ℕ) → slice_get row i ≡ Some r → far_at far r ≡ Some d → ⊥) → (i r d : ℕ) → slice_get (q ∷ row) i ≡ Some r → far_at far r ≡ Some d → ⊥
    none f later zero r d a h = none-some d (sym (ap (λ (z : ℕ). far_at far z) (sym (same_Some q r a)) ∙ f) ∙ h)
    none f later (suc i) r d a h = later i r d a h

-- the least of a distance and those of a row: none is less, and it is one of them
pub record IsLeast (far : List (Option ℕ)) (row : List ℕ) (least : Option ℕ) (d : ℕ) : Type 0 where
  pub first : (e : ℕ) → least ≡ Some e → d ≤ e
  pub each : (i r e : ℕ) → slice_get row i ≡ Some r → far_at far r ≡ Some e → d ≤ e
  pub one : (least ≡ Some d) ⊎ ((i r : ℕ) × (slice_get row i ≡ Some r) × (far_at far r ≡ Some d))

lesser_is : (a b : Option ℕ) (d : ℕ) → lesser a b ≡ Some d → ((e : ℕ) → a ≡ Some e → d ≤ e) × ((e : ℕ) → b ≡ Some e → d ≤ e) × ((a ≡ Some d) ⊎ (b ≡ Some d))
lesser_is None b d e = (λ f q. absurd (none-some f q), λ f q. (let k = same_Some d f (sym e ∙ q) in omega arith), inr e)
lesser_is (Some c) None d e = (λ f q. (let k = same_Some c f q in let l = same_Some c d e in omega arith), λ f q. absurd (none-some f q), inl e)
lesser_is (Some c) (Some f) d e = elim (cases_Bool (nat_le c f)) [
  | inl y ↦ (let z : Some c ≡ Some d = subst (λ (b : Bool). (if b then Some c else Some f) ≡ Some d) y e in
      let l = same_Some c d z in let m = leb-true c f y in
      (λ g q. (let k = same_Some c g q in omega arith), λ g q. (let k = same_Some f g q in omega arith), inl z))
  | inr n ↦ (let z : Some f ≡ Some d = subst (λ (b : Bool). (if b then Some c else Some f) ≡ Some d) n e in
      let l = same_Some f d z in let m = leb-false c f n in
      (λ g q. (let k = same_Some c g q in omega arith), λ g q. (let k = same_Some f g q in omega arith), inr z))
]

pub least_some : (far : List (Option ℕ)) (row : List ℕ) (least : Option ℕ) (d : ℕ) → least_of far least row ≡ Some d → IsLeast far row least d
least_some far [] least d e = record { first = λ f q. (let k = same_Some d f (sym e ∙ q) in omega arith); each = λ i r f a. absurd (none-some r a); one = inl e }
least_some far (q ∷ row) least d e =
    let k = least_some far row (lesser least (far_at far q)) d e in
    record { first = first k; each = each k; one = one k }
  where
    low : IsLeast far row (lesser least (far_at far q)) d → (a b : Option ℕ) → lesser a b ≡ lesser least (far_at far q) → ((f : ℕ) → a ≡ Some f → d ≤ f) × ((f : ℕ) → b ≡ Some f → d ≤ f)
    low k None b s = (λ f z. absurd (none-some f z), λ f z. k.first f (sym s ∙ z))
    low k (Some c) None s = (λ f z. k.first f (sym s ∙ z), λ f z. absurd (none-some f z))
    low k (Some c) (Some g) s = elim (cases_Bool (nat_le c g)) [
      | inl y ↦ (let l = k.first c (sym s ∙ subst (λ (b : Bool). (if b then Some c else Some g) ≡ Some c) (sym y) refl) in let m = leb-true c g y in
          (λ f z. (let v = same_Some c f z in omega arith), λ f z. (let v = same_Some g f z in omega arith)))
      | inr n ↦ (let l = k.first g (sym s ∙ subst (λ (b : Bool). (if b then Some c else Some g) ≡ Some g) (sym n) refl) in let m = leb-false c g n in
          (λ f z. (let v = same_Some c f z in omega arith), λ f z. (let v = same_Some g f z in omega arith)))
    ]

    first : IsLeast far row (lesser least (far_at far q)) d → (f : ℕ) → least ≡ Some f → d ≤ f
    first k = (low k least (far_at far q) refl).0

    each : IsLeast far row (lesser least (far_at far q)) d → (i r f : ℕ) → slice_get (q ∷ row) i ≡ Some r → far_at far r ≡ Some f → d ≤ f
    each k zero r f a h = (low k least (far_at far q) refl).1 f (ap (λ (z : ℕ). far_at far z) (same_Some q r a) ∙ h)
    each k (suc i) r f a h = k.each i r f a h

    one : IsLeast far row (lesser least (far_at far q)) d → (least ≡ Some d) ⊎ ((i r : ℕ) × (slice_get (q ∷ row) i ≡ Some r) × (far_at far r ≡ Some d))
    one k = elim k.one [
      | inr m ↦ inr (suc m.0, m.1, m.2, m.3)
      | inl z ↦ elim (lesser_is least (far_at far q) d z).2 [ inl s ↦ inl s | inr s ↦ inr (zero, q, refl, s) ]
    ]

-- behind the last number of the row
pub least_done : (far : List (Option ℕ)) (row : List ℕ) (least : Option ℕ) (i : ℕ) → length row ≤ i → least_of far least (drop i row) ≡ least_of far None row → least_of far None row ≡ least
least_done far row least i le e = sym e ∙ ap (λ (z : List ℕ). least_of far least z) (drop_of_length-le row le)

pub least_known : (far : List (Option ℕ)) (row : List ℕ) → least_of far None row ≡ None → (i r d : ℕ) → slice_get row i ≡ Some r → far_at far r ≡ Some d → ⊥
least_known far row e = (least_none far row None e).1

pub least_one : (far : List (Option ℕ)) (row : List ℕ) (d : ℕ) → least_of far None row ≡ Some d → (i r : ℕ) × (slice_get row i ≡ Some r) × (far_at far r ≡ Some d)
least_one far row d e = elim (least_some far row None d e).one [ inl z ↦ absurd (none-some d z) | inr m ↦ m ]

-- the way round

-- the first step goes by the nearest number of the row, and the others go nearer
pub record IsOnRound (spots : List Spot) (bases : ℕ → ℕ) (rows : List (List ℕ)) (far : List (Option ℕ)) (start : ℕ) (steps : List WalkStep_data) (node left : ℕ) : Type 0 where
  pub distance : ℕ
  pub begun : ℕ
  pub first : WalkStep_data
  pub later : List WalkStep_data
  pub whole : steps ≡ first ∷ later
  pub step_is : IsStepTo spots (bases start) (get_or rows start []) far distance begun first
  pub least : (i r d : ℕ) → slice_get (get_or rows start []) i ≡ Some r → far_at far r ≡ Some d → distance ≤ d
  pub way : IsOnWay spots bases rows far begun later node left

pub round_begins : (spots : List Spot) (bases : ℕ → ℕ) (rows : List (List ℕ)) (far : List (Option ℕ)) (start node left : ℕ) (s : WalkStep_data) (steps : List WalkStep_data)
    → IsStepTo spots (bases start) (get_or rows start []) far left node s → ((i r d : ℕ) → slice_get (get_or rows start []) i ≡ Some r → far_at far r ≡ Some d → left ≤ d)
    → steps ≡ s ∷ [] → IsOnRound spots bases rows far start steps node left
round_begins spots bases rows far start node left s steps t least e = record {
  distance = left;
  begun = node;
  first = s;
  later = [];
  whole = e;
  step_is = t;
  least = least;
  way = way_begins spots bases rows far node left (ap (λ (z : ℕ). far_at far z) (sym t.number_is) ∙ t.first.far_is);
}

pub round_goes : (spots : List Spot) (bases : ℕ → ℕ) (rows : List (List ℕ)) (far : List (Option ℕ)) (start : ℕ) (steps steps' : List WalkStep_data) (node left r : ℕ) (s : WalkStep_data)
    → IsOnRound spots bases rows far start steps node left → 0 < left → IsStepTo spots (bases node) (get_or rows node []) far (left - 1) r s → steps' ≡ steps ++ s ∷ []
    → IsOnRound spots bases rows far start steps' r (left - 1)
round_goes spots bases rows far start steps steps' node left r s w lt t e = record {
  distance = w.distance;
  begun = w.begun;
  first = w.first;
  later = w.later ++ s ∷ [];
  whole = e ∙ ap (λ (z : List WalkStep_data). z ++ s ∷ []) w.whole;
  step_is = w.step_is;
  least = w.least;
  way = way_nearer spots bases rows far w.begun w.later (w.later ++ s ∷ []) node left r s w.way lt t refl;
}

-- what a round comes to
pub round_ends : (sub above : Machine_data) (bound : ℕ) (spots : List Spot) (bases : ℕ → ℕ) (rows : List (List ℕ)) (far : List (Option ℕ)) (start : ℕ) (steps : List WalkStep_data) (node left : ℕ) (x : Spot)
    → AreCharted (IsKeepingStep sub above bound) (Is x) spots bases rows far → slice_get spots start ≡ Some x → IsOnRound spots bases rows far start steps node left → left ≤ 0
    → IsFirst (IsRound sub above bound x) steps
round_ends sub above bound spots bases rows far start steps node left x c f w le =
    let g = way_ends spots bases rows far w.begun w.later node left w.way le in
    let k = nearest (nexts_within sub above bound) (IsKeepingStep sub above bound) (Is x) (keep_by sub above bound) spots bases rows far c w.later w.begun node w.first.spot w.step_is.spot_is g in
    let size : length w.later ≡ w.distance = same_Some (length w.later) w.distance (sym k.size ∙ ap (λ (z : ℕ). far_at far z) (sym w.step_is.number_is) ∙ w.step_is.first.far_is) in
    subst (λ (z : List WalkStep_data). IsFirst (IsRound sub above bound x) z) (sym w.whole)
    (first_step (nexts_within sub above bound) (IsKeepingStep sub above bound) (Is x) (keep_by sub above bound) spots bases rows far c start w.distance w.begun 0 x w.first f (c.ends start x f refl) w.step_is
    (IsRound sub above bound x) (round_on sub above bound x) w.later k.first size (near size) w.least)
  where
    near : length w.later ≡ w.distance → (others : List WalkStep_data) → IsRound sub above bound x others → suc (length w.later) ≤ length others
    near size [] r = absurd (r.some refl)
    near size (s ∷ later) r =
        let t = (round_on sub above bound x).from s later r in
        let n = c.named start s.place x s.spot f t.0 in
        let m = way_far (IsKeepingStep sub above bound) (Is x) spots bases rows far c later n.1 s.spot n.4 t.1 in
        let l = w.least n.0 n.1 m.0 n.3 m.1 in let z = m.2 in omega arith

-- some number of the row has a distance, where there is a way round
pub round_some : (sub above : Machine_data) (bound : ℕ) (spots : List Spot) (bases : ℕ → ℕ) (rows : List (List ℕ)) (far : List (Option ℕ)) (start : ℕ) (x : Spot) (steps : List WalkStep_data)
    → AreCharted (IsKeepingStep sub above bound) (Is x) spots bases rows far → slice_get spots start ≡ Some x → IsRound sub above bound x steps
    → (i r d : ℕ) × (slice_get (get_or rows start []) i ≡ Some r) × (far_at far r ≡ Some d)
round_some sub above bound spots bases rows far start x [] c f r = absurd (r.some refl)
round_some sub above bound spots bases rows far start x (s ∷ later) c f r =
    let t = (round_on sub above bound x).from s later r in
    let n = c.named start s.place x s.spot f t.0 in
    let m = way_far (IsKeepingStep sub above bound) (Is x) spots bases rows far c later n.1 s.spot n.4 t.1 in
    (n.0, n.1, m.0, n.3, m.1)

-- the next step has a number to go to
pub round_tight : (spots : List Spot) (bases : ℕ → ℕ) (rows : List (List ℕ)) (far : List (Option ℕ)) (start : ℕ) (steps : List WalkStep_data) (node left : ℕ)
    → ((n d : ℕ) → far_at far n ≡ Some (suc d) → (r : ℕ) × Among (get_or rows n []) r × (far_at far r ≡ Some d)) → IsOnRound spots bases rows far start steps node left → 0 < left
    → (i r : ℕ) × (slice_get (get_or rows node []) i ≡ Some r) × (far_at far r ≡ Some (left - 1))
round_tight spots bases rows far start steps node left tight w lt =
    let s : left ≡ suc (left - 1) = omega arith in
    let t = tight node (left - 1) (w.way.far_is ∙ ap Some s) in
    let i = at_in (get_or rows node []) t.0 t.1 in
    (i.0, t.0, i.1, t.2)

-- the node at which it is forgotten
pub record ForgetsAt (sub above : Machine_data) (bound : ℕ) (spots : List Spot) (items : List ℕ) (node : ℕ) : Type 0 where
  pub spot : Spot
  pub steps : List WalkStep_data
  pub stands : slice_get (spots_at spots items) node ≡ Some spot
  pub round : IsRound sub above bound spot steps

pub forgets_at : (sub above : Machine_data) (bound : ℕ) (spots : List Spot) (items places : List ℕ) (rows : List (List ℕ)) (node : ℕ) → AreKeptNodes sub above bound spots items places rows
    → IsForgets sub above bound node → ForgetsAt sub above bound spots items node
forgets_at sub above bound spots items places rows node k f =
    let r = some_round sub above bound node f in
    let s = one_canonical sub above bound f.derivation k.derivation f.canonical k.canonical in
    record {
      spot = r.spot;
      steps = r.steps;
      stands = ap (λ (z : List Spot). slice_get z node) (sym k.same) ∙ ap (λ (z : List Spot). slice_get z node) (sym s.spots') ∙ r.stands;
      round = r.round;
    }

pub item_of : (spots : List Spot) (items : List ℕ) (i : ℕ) (x : Spot) → slice_get (spots_at spots items) i ≡ Some x → i < length items
item_of spots items i x e = let k = at_short (spots_at spots items) i x e in let l = length-map items (λ (n : ℕ). get_or spots n (spot 0 [] 0)) in omega arith

pub forgetting : (sub above : Machine_data) (bound : ℕ) (spots : List Spot) (items places : List ℕ) (rows : List (List ℕ)) (node : ℕ) (f : Forgetting_data) → AreKeptNodes sub above bound spots items places rows
    → slice_get (spots_at spots items) node ≡ Some f.spot → IsFirst (IsRound sub above bound f.spot) f.steps → IsForgetting sub above bound node f
forgetting sub above bound spots items places rows node f k e first = record {
  derivation = k.derivation;
  canonical = k.canonical;
  stands = ap (λ (z : List Spot). slice_get z node) k.same ∙ e;
  first = first;
}

-- what a step from a node reads

pub node_in : (spots : List Spot) (items places : List ℕ) (rows : List (List ℕ)) → AreNumberedNodes spots items places rows
    → (node : ℕ) → node < length items → (node < length rows) × (node < length places)
node_in spots items places rows k node lt = let a = k.places_size in let b = k.rows_size in (omega arith, omega arith)

pub next_in : (spots : List Spot) (items places : List ℕ) (rows : List (List ℕ)) → AreNumberedNodes spots items places rows
    → (node index next : ℕ) → slice_get (get_or rows node []) index ≡ Some next → (next < length items) × (get_or items next 0 < length spots) × (index < 65537)
next_in spots items places rows k node index next e =
    let lt = k.within node next (in_at (get_or rows node []) index next e) in
    let n = at_within items next lt in
    let w = k.items_within next n.0 n.1 in
    let s = k.short node in
    let h = at_short (get_or rows node []) index next e in
    (lt, subst (λ (z : ℕ). z < length spots) (sym (got items next n.0 0 n.1)) w, omega arith)

pub step_made : (spots : List Spot) (items places : List ℕ) (rows : List (List ℕ)) → AreNumberedNodes spots items places rows
    → (far : List (Option ℕ)) (node distance index next place : ℕ) (row : List ℕ) (q : Spot) (s : WalkStep_data) → node < length items → row ≡ get_or rows node [] → IsFirstAt far row distance index
    → slice_get row index ≡ Some next → place ≡ at places node + index → slice_get spots (get_or items next 0) ≡ Some q → s ≡ record { place = place; spot = q }
    → IsStepTo (spots_at spots items) (at places node) (get_or rows node []) far distance next s
step_made spots items places rows k far node distance index next place row q s lt er a e ep eq es =
    let inn = node_in spots items places rows k node lt in
    let r = at_within rows node inn.0 in
    let same : row ≡ r.0 = er ∙ got rows node r.0 [] r.1 in
    let e' : slice_get r.0 index ≡ Some next = subst (λ (z : List ℕ). slice_get z index ≡ Some next) same e in
    let w = next_in spots items places rows k node index next (subst (λ (z : List ℕ). slice_get z index ≡ Some next) er e) in
    let n = at_within items next w.0 in
    let at_q : slice_get (spots_at spots items) next ≡ Some q = spot_at spots items next n.0 q n.1 (ap (λ (z : ℕ). slice_get spots z) (sym (got items next n.0 0 n.1)) ∙ eq) in
    subst (λ (z : WalkStep_data). IsStepTo (spots_at spots items) (at places node) (get_or rows node []) far distance next z) (sym es)
    (step_to (spots_at spots items) (at places node) rows far distance node place index next r.0 q r.1 (subst (λ (z : List ℕ). IsFirstAt far z distance index) same a) e' at_q ep)

-- what is read

pub row_read : (rows : List (List ℕ)) (n : ℕ) (row : List ℕ) → n < length rows → row ≡ get_or rows n row → row ≡ get_or rows n []
row_read rows n row lt e = e ∙ get_or_default rows n row [] lt

pub number_read : (xs : List ℕ) (n x : ℕ) → n < length xs → x ≡ get_or xs n x → x ≡ get_or xs n 0
number_read xs n x lt e = e ∙ get_or_default xs n x 0 lt

-- the spot of a node, as it is read
pub spot_read : (spots : List Spot) (items : List ℕ) (node number : ℕ) (x y : Spot) → slice_get (spots_at spots items) node ≡ Some x → number ≡ get_or items node 0 → slice_get spots number ≡ Some y
    → slice_get (spots_at spots items) node ≡ Some y
spot_read spots items node number x y e en ey =
    let n = at_within items node (item_of spots items node x e) in
    spot_at spots items node n.0 y n.1 (ap (λ (z : ℕ). slice_get spots z) (sym (got items node n.0 0 n.1) ∙ sym en) ∙ ey)

pub item_in : (spots : List Spot) (items places : List ℕ) (rows : List (List ℕ)) → AreNumberedNodes spots items places rows
    → (node number : ℕ) (x : Spot) → slice_get (spots_at spots items) node ≡ Some x → number ≡ get_or items node 0 → number < length spots
item_in spots items places rows k node number x e en =
    let n = at_within items node (item_of spots items node x e) in
    let w = k.items_within node n.0 n.1 in
    let g = got items node n.0 0 n.1 in omega arith

pub forgetting_is : (sub above : Machine_data) (bound : ℕ) (spots : List Spot) (items places : List ℕ) (rows : List (List ℕ)) (node : ℕ) (f : Forgetting_data) (y : Spot) (steps : List WalkStep_data)
    → AreKeptNodes sub above bound spots items places rows → f ≡ record { spot = y; steps = steps } → slice_get (spots_at spots items) node ≡ Some y → IsFirst (IsRound sub above bound y) steps
    → IsForgetting sub above bound node f
forgetting_is sub above bound spots items places rows node f y steps k e ey first = rw e (forgetting sub above bound spots items places rows node (record { spot = y; steps = steps }) k ey first)
