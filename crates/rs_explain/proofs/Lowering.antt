-- Numbers of moves that are lowered until they hold are those after which the spots die.
use Rattle.std.proofs.Common.{◌≡◌, ◌⊎◌, inl, inr, ℕ, ◌<◌, ◌≤◌, ◌+◌, zero, suc, Bool, true, false, List, [], ◌∷◌, length, map, get_or, set, replicate, slice_get, nat_le, nat_lt, Option, Some, None, if◌then◌else◌, refl, sym, ap, subst, ◌∙◌, arith, drop}
use Rattle.std.proofs.lemmas.Bool.{cases_Bool, cases_lt, leb-false, leb-true, ltb-false, ltb-true}
use Rattle.std.proofs.lemmas.List.{get_or_past, get_or-replicate, get_or-set_other, get_or-set_same, length-map, length-replicate, length-set}
use Rattle.std.proofs.lemmas.List.Sums.{sum_by-cons}
use Rattle.std.proofs.lemmas.Option.{none-some, same_Some}
use Rattle.std.proofs.Math.ListN.{drop_of_length-le}
use Rattle.rs_model.specs.Data.{Machine_data}
use Rattle.rs_derive.proofs.Mapped.{map_at}
use Rattle.rs_derive.specs.Moves.{Spot}
use Rattle.rs_graph.proofs.Buckets.{got}
use Rattle.rs_graph.proofs.Growth.{at_in, at_short, at_within, in_at}
use Rattle.rs_graph.specs.Discovery.{IsDiscovery}
use Rattle.rs_graph.specs.Graphs.{moves_of}
use Rattle.rs_graph.specs.Lists.{Among, ArePlacesOf}
use Rattle.rs_search.proofs.Choices.{from_move, to_move}
use Rattle.rs_search.proofs.Discovering.{same_number}
use Rattle.rs_search.proofs.Verdicts.{rows_within}
use Rattle.rs_search.specs.Candidates.{MoveWithin, start_spot}
use Rattle.rs_search.specs.Found.{AreFoundCandidates}
use Rattle.rs_search.specs.Turns.{is_any, nexts_within}
use Rattle.rs_search.specs.declared.found.Candidates.{Candidates}
use Rattle.rs_explain.proofs.Circling.{least_known, least_one, least_some}
use Rattle.rs_explain.proofs.Dying.{dies_within, dying_step, lost, one_after}
use Rattle.rs_explain.proofs.Existing.{place_named}
use Rattle.rs_explain.proofs.Nearest.{spot_named}
use Rattle.rs_explain.proofs.Spreading.{far_read, far_within, flag_read}
use Rattle.rs_explain.specs.Deaths.{AreBounds, AreBoundsTo, AreDeaths, AreInOrder, IsDyingWay, IsLowered, IsVisited, Lowered, NoneLowered, Same, SomeLowered, counted, given, later, latest_of, lesser_given, lowers, one_more, total}
use Rattle.rs_explain.specs.Distances.{far_at}
use Rattle.rs_explain.specs.KeptNodes.{least_of}
use Rattle.rs_explain.specs.OnWay.{AreDownhill, GoNearer, IsStepTo}
use Rattle.rs_explain.specs.Walks.{Dies, DiesAfter, DiesWithin, IsDyingWalk, LeadsBy, WalkStep_data, end_of}

-- the greatest of a row

later_high : (a b : Option ℕ) (e : ℕ) → later a b ≡ Some e → ((d : ℕ) × (a ≡ Some d) × (d ≤ e)) × ((d : ℕ) × (b ≡ Some d) × (d < e))
later_high None b e h = absurd (none-some e h)
later_high (Some d) None e h = absurd (none-some e h)
later_high (Some d) (Some f) e h = elim (cases_Bool (nat_le d f)) [
  | inl y ↦ (let k : Some (suc f) ≡ Some e = subst (λ (b : Bool). (if b then Some (suc f) else Some d) ≡ Some e) y h in
      let same = same_Some (suc f) e k in let le = leb-true d f y in ((d, refl, omega arith), (f, refl, omega arith)))
  | inr n ↦ (let k : Some d ≡ Some e = subst (λ (b : Bool). (if b then Some (suc f) else Some d) ≡ Some e) n h in
      let same = same_Some d e k in let lt = leb-false d f n in ((d, refl, omega arith), (f, refl, omega arith)))
]

later_low : (d f most : ℕ) → d ≤ most → f < most → (e : ℕ) × (later (Some d) (Some f) ≡ Some e) × (e ≤ most)
later_low d f most le lt = elim (cases_Bool (nat_le d f)) [
  | inl y ↦ (suc f, subst (λ (b : Bool). (if b then Some (suc f) else Some d) ≡ Some (suc f)) (sym y) refl, omega arith)
  | inr n ↦ (d, subst (λ (b : Bool). (if b then Some (suc f) else Some d) ≡ Some d) (sym n) refl, le)
]

latest_high : (far : List (Option ℕ)) (row : List ℕ) (start : Option ℕ) (e : ℕ) → latest_of far start row ≡ Some e
    → ((d : ℕ) × (start ≡ Some d) × (d ≤ e)) × ((i r : ℕ) → slice_get row i ≡ Some r → (d : ℕ) × (far_at far r ≡ Some d) × (d < e))
latest_high far [] start e h = ((e, h, omega arith), λ i r a. absurd (none-some r a))
latest_high far (q ∷ row) start e h = both (latest_high far row (later start (far_at far q)) e h)
  where
    both : ((d : ℕ) × (later start (far_at far q) ≡ Some d) × (d ≤ e)) × ((i r : ℕ) → slice_get row i ≡ Some r → (d : ℕ) × (far_at far r ≡ Some d) × (d < e))
        → ((d : ℕ) × (start ≡ Some d) × (d ≤ e)) × ((i r : ℕ) → slice_get (q ∷ row) i ≡ Some r → (d : ℕ) × (far_at far r ≡ Some d) × (d < e))
    both k = (let s = later_high start (far_at far q) k.0.0 k.0.1 in let le = k.0.2 in
        ((s.0.0, s.0.1, (let z = s.0.2 in omega arith)), each (s.1.0, s.1.1, (let z = s.1.2 in omega arith)) k.1))
      where
        each : ((d : ℕ) × (far_at far q ≡ Some d) × (d < e)) → ((i r : ℕ) → slice_get row i ≡ Some r → (d : ℕ) × (far_at far r ≡ Some d) × (d < e))
            → (i r : ℕ) → slice_get (q ∷ row) i ≡ Some r → (d : ℕ) × (far_at far r ≡ Some d) × (d < e)
        each first rest zero r a = subst (λ (z : ℕ). (d : ℕ) × (far_at far z ≡ Some d) × (d < e)) (same_Some q r a) first
        each first rest (suc i) r a = rest i r a

latest_low : (far : List (Option ℕ)) (row : List ℕ) (start most : ℕ) → start ≤ most → ((i r : ℕ) → slice_get row i ≡ Some r → (d : ℕ) × (far_at far r ≡ Some d) × (d < most))
    → (e : ℕ) × (latest_of far (Some start) row ≡ Some e) × (e ≤ most)
latest_low far [] start most le each = (start, refl, le)
latest_low far (q ∷ row) start most le each =
    let f = each 0 q refl in
    let k = later_low start f.0 most le f.2 in
    let on = latest_low far row k.0 most k.2 (λ i r a. each (suc i) r a) in
    (on.0, ap (λ (z : Option ℕ). latest_of far (later (Some start) z) row) f.1 ∙ ap (λ (z : Option ℕ). latest_of far z row) k.1 ∙ on.1, on.2)

-- behind the last number of the row
pub latest_done : (far : List (Option ℕ)) (row : List ℕ) (latest : Option ℕ) (i : ℕ) → length row ≤ i → latest_of far latest (drop i row) ≡ latest_of far (Some 0) row → latest ≡ latest_of far (Some 0) row
latest_done far row latest i le e = sym (ap (λ (z : List ℕ). latest_of far latest z) (drop_of_length-le row le)) ∙ e

more_is : (a : Option ℕ) (e : ℕ) → one_more a ≡ Some e → (f : ℕ) × (a ≡ Some f) × (e ≡ suc f)
more_is None e h = absurd (none-some e h)
more_is (Some f) e h = (f, refl, sym (same_Some (suc f) e h))

-- moves of one result each

single_of : (spots rs : List Spot) → Among (moves_of true spots) rs → (i : ℕ) × (q : Spot) × (slice_get spots i ≡ Some q) × (rs ≡ q ∷ [])
single_of [] rs h = absurd h
single_of (s ∷ spots) rs (inl e) = (0, s, refl, sym e)
single_of (s ∷ spots) rs (inr h) = let k = single_of spots rs h in (suc k.0, k.1, k.2, k.3)

of_single : (spots : List Spot) (i : ℕ) (q : Spot) → slice_get spots i ≡ Some q → Among (moves_of true spots) (q ∷ [])
of_single [] i q e = absurd (none-some q e)
of_single (s ∷ spots) zero q e = inl (ap (λ (z : Spot). z ∷ []) (same_Some s q e))
of_single (s ∷ spots) (suc i) q e = inr (of_single spots i q e)

-- what is given holds

-- numbers of spots that die so soon
abbrev Hold : Machine_data → Machine_data → ℕ → List Spot → List (Option ℕ) → Type 0
Hold sub above bound spots far = (n d : ℕ) (x : Spot) → slice_get spots n ≡ Some x → far_at far n ≡ Some d → DiesWithin sub above bound d x

given_each : (sub above : Machine_data) (bound : ℕ) (spots : List Spot) (far : List (Option ℕ)) → Hold sub above bound spots far → (row : List ℕ) (nexts : List Spot) → ArePlacesOf spots row nexts
    → (x : Spot) (e : ℕ) → latest_of far (Some 0) row ≡ Some e → ((rs : List Spot) → MoveWithin sub above bound x rs → Among (moves_of true nexts) rs) → DiesWithin sub above bound e x
given_each sub above bound spots far hold row nexts names x zero h from = λ rs m. (
    let s = single_of nexts rs (from rs m) in
    let r = spot_named spots row nexts s.0 s.1 names s.2 in
    let d = (latest_high far row (Some 0) 0 h).1 s.0 r.0 r.1 in
    let lt = d.2 in let bad : ⊥ = omega arith in bad)
given_each sub above bound spots far hold row nexts names x (suc e) h from = λ rs m. (
    let s = single_of nexts rs (from rs m) in
    let r = spot_named spots row nexts s.0 s.1 names s.2 in
    let d = (latest_high far row (Some 0) (suc e) h).1 s.0 r.0 r.1 in
    let lt = d.2 in
    (s.1, subst (λ (z : List Spot). Among z s.1) (sym s.3) (inl refl), dies_within sub above bound d.0 e s.1 (omega arith) (hold r.0 d.0 s.1 r.2 d.1)))

given_one : (sub above : Machine_data) (bound : ℕ) (spots : List Spot) (far : List (Option ℕ)) → Hold sub above bound spots far → (row : List ℕ) (nexts : List Spot) → ArePlacesOf spots row nexts
    → (x : Spot) (e : ℕ) → one_more (least_of far None row) ≡ Some e → ((rs : List Spot) → MoveWithin sub above bound x rs → Among (moves_of false nexts) rs) → DiesWithin sub above bound e x
given_one sub above bound spots far hold row nexts names x e h from =
    let f = more_is (least_of far None row) e h in
    let l = least_one far row f.0 f.1 in
    let q = place_named spots row nexts l.0 l.1 names l.2 in
    subst (λ (z : ℕ). DiesWithin sub above bound z x) (sym f.2) (λ rs m. elim (from rs m) [
      | inl same ↦ (q.0, subst (λ (z : List Spot). Among z q.0) same (in_at nexts l.0 q.0 q.1), hold l.1 f.0 q.0 q.2 l.3)
      | inr none ↦ absurd none
    ])

given_by : (sub above : Machine_data) (bound : ℕ) (spots : List Spot) (far : List (Option ℕ)) → Hold sub above bound spots far → (row : List ℕ) (nexts : List Spot) → ArePlacesOf spots row nexts
    → (x : Spot) (e : ℕ) (any : Bool) → given far any row ≡ Some e → ((rs : List Spot) → MoveWithin sub above bound x rs → Among (moves_of any nexts) rs) → DiesWithin sub above bound e x
given_by sub above bound spots far hold row nexts names x e true h from = given_each sub above bound spots far hold row nexts names x e h from
given_by sub above bound spots far hold row nexts names x e false h from = given_one sub above bound spots far hold row nexts names x e h from

-- what is known of the candidates
record Known (sub above : Machine_data) (bound : ℕ) (spots : List Spot) (rows : List (List ℕ)) (anys : List Bool) : Type 0 where
  pub discovery : IsDiscovery (nexts_within sub above bound) (start_spot sub above) spots rows
  pub any : anys ≡ map (is_any sub above bound) spots

known : (sub above : Machine_data) (bound : ℕ) (found : Candidates) → AreFoundCandidates sub above bound found → Known sub above bound found.table.spots found.table.rows found.anys.items
known sub above bound found f = record { discovery = f.discovery; any = f.noted.anys }

any_at : (sub above : Machine_data) (bound : ℕ) (spots : List Spot) (rows : List (List ℕ)) (anys : List Bool) → Known sub above bound spots rows anys → (n : ℕ) (x : Spot) → slice_get spots n ≡ Some x
    → get_or anys n false ≡ is_any sub above bound x
any_at sub above bound spots rows anys k n x e =
    got anys n (is_any sub above bound x) false (ap (λ (z : List Bool). slice_get z n) k.any ∙ map_at (is_any sub above bound) spots n x e)

names_at : (sub above : Machine_data) (bound : ℕ) (spots : List Spot) (rows : List (List ℕ)) (anys : List Bool) → Known sub above bound spots rows anys → (n : ℕ) (x : Spot) → slice_get spots n ≡ Some x
    → ArePlacesOf spots (get_or rows n []) (nexts_within sub above bound x)
names_at sub above bound spots rows anys k n x e =
    let row = at_within rows n (let w = at_short spots n x e in let s = k.discovery.all in omega arith) in
    subst (λ (z : List ℕ). ArePlacesOf spots z (nexts_within sub above bound x)) (sym (got rows n row.0 [] row.1)) (k.discovery.names n x row.0 e row.1)

given_holds : (sub above : Machine_data) (bound : ℕ) (spots : List Spot) (rows : List (List ℕ)) (anys : List Bool) (far : List (Option ℕ)) → Known sub above bound spots rows anys
    → Hold sub above bound spots far → (n : ℕ) (x : Spot) (e : ℕ) → slice_get spots n ≡ Some x → given far (get_or anys n false) (get_or rows n []) ≡ Some e → DiesWithin sub above bound e x
given_holds sub above bound spots rows anys far k hold n x e f h =
    given_by sub above bound spots far hold (get_or rows n []) (nexts_within sub above bound x) (names_at sub above bound spots rows anys k n x f) x e (is_any sub above bound x)
    (subst (λ (z : Bool). given far z (get_or rows n []) ≡ Some e) (any_at sub above bound spots rows anys k n x f) h) (from_move sub above bound x)

-- what is given is no more than so many moves within which the spot dies

-- the numbers of spots that die within so many moves are known, and no more
abbrev AreLow : Machine_data → Machine_data → ℕ → List Spot → List (Option ℕ) → ℕ → Type 0
AreLow sub above bound spots far m = (n : ℕ) (x : Spot) → slice_get spots n ≡ Some x → DiesWithin sub above bound m x → (d : ℕ) × (far_at far n ≡ Some d) × (d ≤ m)

low_none : (sub above : Machine_data) (bound : ℕ) (spots : List Spot) (far : List (Option ℕ)) (row : List ℕ) (nexts : List Spot) → ArePlacesOf spots row nexts → (x : Spot) (any : Bool)
    → ((rs : List Spot) → Among (moves_of any nexts) rs → MoveWithin sub above bound x rs) → DiesWithin sub above bound 0 x → (e : ℕ) × (given far any row ≡ Some e) × (e ≤ 0)
low_none sub above bound spots far row nexts names x true to h =
    latest_low far row 0 0 (omega arith) (λ i r a. let q = place_named spots row nexts i r names a in absurd (h (q.0 ∷ []) (to (q.0 ∷ []) (of_single nexts i q.0 q.1))))
low_none sub above bound spots far row nexts names x false to h = absurd (h nexts (to nexts (inl refl)))

low_some : (sub above : Machine_data) (bound : ℕ) (spots : List Spot) (far : List (Option ℕ)) (m : ℕ) → AreLow sub above bound spots far m → (row : List ℕ) (nexts : List Spot) → ArePlacesOf spots row nexts
    → (x : Spot) (any : Bool) → ((rs : List Spot) → Among (moves_of any nexts) rs → MoveWithin sub above bound x rs) → DiesWithin sub above bound (suc m) x
    → (e : ℕ) × (given far any row ≡ Some e) × (e ≤ suc m)
low_some sub above bound spots far m low row nexts names x true to h = latest_low far row 0 (suc m) (omega arith) each
  where
    only : (q r : Spot) → Among (q ∷ []) r → q ≡ r
    only q r (inl e) = e
    only q r (inr none) = absurd none

    each : (i r : ℕ) → slice_get row i ≡ Some r → (d : ℕ) × (far_at far r ≡ Some d) × (d < suc m)
    each i r a = (
        let q = place_named spots row nexts i r names a in
        let k = h (q.0 ∷ []) (to (q.0 ∷ []) (of_single nexts i q.0 q.1)) in
        let d = low r q.0 q.2 (subst (λ (z : Spot). DiesWithin sub above bound m z) (sym (only q.0 k.0 k.1)) k.2) in
        let le = d.2 in (d.0, d.1, omega arith))
low_some sub above bound spots far m low row nexts names x false to h = go (least_of far None row) refl
  where
    found : (i r d : ℕ) × (slice_get row i ≡ Some r) × (far_at far r ≡ Some d) × (d ≤ m)
    found = (
        let k = h nexts (to nexts (inl refl)) in
        let i = at_in nexts k.0 k.1 in
        let r = spot_named spots row nexts i.0 k.0 names i.1 in
        let d = low r.0 k.0 r.2 k.2 in (i.0, r.0, d.0, r.1, d.1, d.2))

    go : (o : Option ℕ) → least_of far None row ≡ o → (e : ℕ) × (one_more (least_of far None row) ≡ Some e) × (e ≤ suc m)
    go None e = absurd (least_known far row e found.0 found.1 found.2 found.3 found.4)
    go (Some f) e = (suc f, ap one_more e, (let le = (least_some far row None f e).each found.0 found.1 found.2 found.3 found.4 in let z = found.5 in omega arith))

lesser_none : (a b : Option ℕ) (d e : ℕ) → a ≡ Some d → b ≡ Some e → lesser_given a b ≡ None → d ≤ e
lesser_none a b d e ea eb h = go (subst (λ (z : Option ℕ). lesser_given z (Some e) ≡ None) ea (subst (λ (z : Option ℕ). lesser_given a z ≡ None) eb h))
  where
    go : lesser_given (Some d) (Some e) ≡ None → d ≤ e
    go k = elim (cases_Bool (nat_lt e d)) [
      | inl y ↦ (let z : Some e ≡ None = subst (λ (b : Bool). (if b then Some e else None) ≡ None) y k in absurd (none-some e (sym z)))
      | inr n ↦ (let z = ltb-false e d n in omega arith)
    ]

lesser_some : (a b : Option ℕ) (e : ℕ) → lesser_given a b ≡ Some e → (d : ℕ) × (a ≡ Some d) × (b ≡ Some e) × (e < d)
lesser_some None b e h = absurd (none-some e h)
lesser_some (Some d) None e h = absurd (none-some e h)
lesser_some (Some d) (Some f) e h = elim (cases_Bool (nat_lt f d)) [
  | inl y ↦ (let k : Some f ≡ Some e = subst (λ (b : Bool). (if b then Some f else None) ≡ Some e) y h in
      let same = same_Some f e k in let lt = ltb-true f d y in (d, refl, k, omega arith))
  | inr n ↦ (let k : None ≡ Some e = subst (λ (b : Bool). (if b then Some f else None) ≡ Some e) n h in absurd (none-some e k))
]

-- nothing of the order can be lowered
abbrev pub AreSettled : List Bool → List (List ℕ) → List ℕ → List (Option ℕ) → Type 0
AreSettled anys rows order far = (i n : ℕ) → slice_get order i ≡ Some n → lowers anys rows far n ≡ None

-- the number of each spot that dies is known
known_dies : (sub above : Machine_data) (bound : ℕ) (spots : List Spot) (order : List ℕ) (far : List (Option ℕ)) → AreInOrder sub above bound spots order → AreBounds sub above bound spots order far
    → (n : ℕ) (x : Spot) → slice_get spots n ≡ Some x → Dies sub above bound x → (d : ℕ) × (far_at far n ≡ Some d)
known_dies sub above bound spots order far o b n x e d = let i = at_in order n (o.all n x e d) in b.known i.0 n (at_short order i.0 n i.1) i.1

-- of one spot, where it is so of those that die within fewer moves
settled_at : (sub above : Machine_data) (bound : ℕ) (spots : List Spot) (rows : List (List ℕ)) (anys : List Bool) (order : List ℕ) (far : List (Option ℕ)) → Known sub above bound spots rows anys
    → AreInOrder sub above bound spots order → AreBounds sub above bound spots order far → AreSettled anys rows order far → (m n : ℕ) (x : Spot) → slice_get spots n ≡ Some x
    → DiesWithin sub above bound m x → ((e : ℕ) × (given far (is_any sub above bound x) (get_or rows n []) ≡ Some e) × (e ≤ m)) → (d : ℕ) × (far_at far n ≡ Some d) × (d ≤ m)
settled_at sub above bound spots rows anys order far k o b s m n x f h e =
    let d = known_dies sub above bound spots order far o b n x f (λ alive. lost sub above bound m x h alive) in
    let i = at_in order n (o.all n x f (λ alive. lost sub above bound m x h alive)) in
    let g : given far (get_or anys n false) (get_or rows n []) ≡ Some e.0 = subst (λ (z : Bool). given far z (get_or rows n []) ≡ Some e.0) (sym (any_at sub above bound spots rows anys k n x f)) e.1 in
    let z = lesser_none (far_at far n) (given far (get_or anys n false) (get_or rows n [])) d.0 e.0 d.1 g (s i.0 n i.1) in
    let y = e.2 in (d.0, d.1, omega arith)

settled_low : (sub above : Machine_data) (bound : ℕ) (spots : List Spot) (rows : List (List ℕ)) (anys : List Bool) (order : List ℕ) (far : List (Option ℕ)) → Known sub above bound spots rows anys
    → AreInOrder sub above bound spots order → AreBounds sub above bound spots order far → AreSettled anys rows order far → (m : ℕ) → AreLow sub above bound spots far m
settled_low sub above bound spots rows anys order far k o b s zero n x f h =
    settled_at sub above bound spots rows anys order far k o b s zero n x f h
    (low_none sub above bound spots far (get_or rows n []) (nexts_within sub above bound x) (names_at sub above bound spots rows anys k n x f) x (is_any sub above bound x) (to_move sub above bound x) h)
settled_low sub above bound spots rows anys order far k o b s (suc m) n x f h =
    settled_at sub above bound spots rows anys order far k o b s (suc m) n x f h
    (low_some sub above bound spots far m (settled_low sub above bound spots rows anys order far k o b s m) (get_or rows n []) (nexts_within sub above bound x)
    (names_at sub above bound spots rows anys k n x f) x (is_any sub above bound x) (to_move sub above bound x) h)

pub deaths_are : (sub above : Machine_data) (bound : ℕ) (found : Candidates) (order : List ℕ) (far : List (Option ℕ)) → AreFoundCandidates sub above bound found
    → AreInOrder sub above bound found.table.spots order → AreBounds sub above bound found.table.spots order far → AreSettled found.anys.items found.table.rows order far
    → AreDeaths sub above bound found.table.spots far
deaths_are sub above bound found order far f o b s = record {
  size = b.size;
  each = λ n d x e h. record {
    within = b.within n d x e h;
    least = λ m g. (let k = settled_low sub above bound found.table.spots found.table.rows found.anys.items order far (known sub above bound found f) o b s m n x e g in
        let same = same_Some d k.0 (sym h ∙ k.1) in let le = k.2 in omega arith);
  };
  all = λ n x e d. known_dies sub above bound found.table.spots order far o b n x e d;
}

-- one number is lowered

set_same : (far : List (Option ℕ)) (n e : ℕ) → n < length far → far_at (set far n (Some e)) n ≡ Some e
set_same far n e lt = get_or-set_same far n (Some e) None lt

set_was : (far : List (Option ℕ)) (n e m d : ℕ) → n < length far → far_at (set far n (Some e)) m ≡ Some d → ((n ≡ m) × (e ≡ d)) ⊎ (far_at far m ≡ Some d)
set_was far n e m d lt h = elim (same_number n m) [
  | inl q ↦ inl (q, same_Some e d (sym (set_same far n e lt) ∙ ap (λ (z : ℕ). far_at (set far n (Some e)) z) q ∙ h))
  | inr ne ↦ inr (sym (get_or-set_other far n m (Some e) None (λ q. ne (sym q))) ∙ h)
]

set_known : (far : List (Option ℕ)) (n e m d : ℕ) → n < length far → far_at far m ≡ Some d → (f : ℕ) × (far_at (set far n (Some e)) m ≡ Some f)
set_known far n e m d lt h = elim (same_number n m) [
  | inl q ↦ (e, ap (λ (z : ℕ). far_at (set far n (Some e)) z) (sym q) ∙ set_same far n e lt)
  | inr ne ↦ (d, get_or-set_other far n m (Some e) None (λ q. ne (sym q)) ∙ h)
]

-- a number within which the spot dies is put in
bounds_set : (sub above : Machine_data) (bound : ℕ) (spots : List Spot) (order : List ℕ) (count : ℕ) (far : List (Option ℕ)) (n e : ℕ) → AreBoundsTo sub above bound spots order count far
    → n < length spots → e < length spots → ((x : Spot) → slice_get spots n ≡ Some x → DiesWithin sub above bound e x) → AreBoundsTo sub above bound spots order count (set far n (Some e))
bounds_set sub above bound spots order count far n e b here less dies = record {
  size = length-set far n (Some e) ∙ b.size;
  low = λ m d h. elim (set_was far n e m d lt h) [ inl q ↦ (let z = q.1 in omega arith) | inr old ↦ b.low m d old ];
  within = λ m d x f h. elim (set_was far n e m d lt h) [
    | inl q ↦ subst (λ (z : ℕ). DiesWithin sub above bound z x) q.1 (dies x (ap (λ (z : ℕ). slice_get spots z) q.0 ∙ f))
    | inr old ↦ b.within m d x f old
  ];
  known = λ i m less o. (let k = b.known i m less o in set_known far n e m k.0 lt k.1);
}
  where
    lt : n < length far
    lt = let s = b.size in omega arith

pub bounds_lowered : (sub above : Machine_data) (bound : ℕ) (found : Candidates) (order : List ℕ) (far far' : List (Option ℕ)) (n : ℕ) (low : Bool) → AreFoundCandidates sub above bound found
    → AreBounds sub above bound found.table.spots order far → n < length found.table.spots → IsLowered far n (lowers found.anys.items found.table.rows far n) far' low
    → AreBounds sub above bound found.table.spots order far'
bounds_lowered sub above bound found order far far' n low f b here (Same e same el) = subst (λ (z : List (Option ℕ)). AreBounds sub above bound found.table.spots order z) (sym same) b
bounds_lowered sub above bound found order far far' n low f b here (Lowered e new same el) =
    let s = lesser_some (far_at far n) (given far (get_or found.anys.items n false) (get_or found.table.rows n [])) e new in
    let less = b.low n s.0 s.1 in
    let lt = s.3 in
    subst (λ (z : List (Option ℕ)). AreBounds sub above bound found.table.spots order z) (sym same)
    (bounds_set sub above bound found.table.spots order (length order) far n e b here (omega arith)
    (λ x g. given_holds sub above bound found.table.spots found.table.rows found.anys.items far (known sub above bound found f) b.within n x e g s.2))

-- the sum of the numbers falls

total_set : (far : List (Option ℕ)) (n d e : ℕ) → far_at far n ≡ Some d → e < d → total (set far n (Some e)) < total far
total_set [] n d e h lt = absurd (none-some d (sym (get_or_past [] n None (omega arith)) ∙ h))
total_set (o ∷ far) zero d e h lt =
    let a = sum_by-cons counted o far in let b = sum_by-cons counted (Some e) far in
    let c : counted o ≡ d = ap counted h in omega arith
total_set (o ∷ far) (suc n) d e h lt =
    let a = sum_by-cons counted o far in let b = sum_by-cons counted o (set far n (Some e)) in
    let k = total_set far n d e h lt in omega arith

total_lowered : (anys : List Bool) (rows : List (List ℕ)) (far far' : List (Option ℕ)) (n : ℕ) (low : Bool) → IsLowered far n (lowers anys rows far n) far' low → low ≡ true → total far' < total far
total_lowered anys rows far far' n low (Same e same el) y = absurd (let bad : false ≡ true = sym el ∙ y in cc bad)
total_lowered anys rows far far' n low (Lowered e new same el) y =
    let s = lesser_some (far_at far n) (given far (get_or anys n false) (get_or rows n [])) e new in
    subst (λ (z : List (Option ℕ)). total z < total far) (sym same) (total_set far n s.0 e s.1 s.3)

-- one node more is visited

pub visited_none : (anys : List Bool) (rows : List (List ℕ)) (order : List ℕ) (far : List (Option ℕ)) → IsVisited anys rows order far 0 far false
visited_none anys rows order far = NoneLowered refl refl (λ i n lt. let bad : ⊥ = omega arith in absurd bad)

visited_total : (anys : List Bool) (rows : List (List ℕ)) (order : List ℕ) (far : List (Option ℕ)) (count : ℕ) (far' : List (Option ℕ)) (low : Bool) → IsVisited anys rows order far count far' low
    → total far' ≤ total far
visited_total anys rows order far count far' low (SomeLowered e lt) = omega arith
visited_total anys rows order far count far' low (NoneLowered e same s) = let k : total far' ≡ total far = ap total same in omega arith

pub visited_low : (anys : List Bool) (rows : List (List ℕ)) (order : List ℕ) (far : List (Option ℕ)) (count : ℕ) (far' far'' : List (Option ℕ)) (low : Bool) (n : ℕ)
    → IsVisited anys rows order far count far' low → IsLowered far' n (lowers anys rows far' n) far'' true → IsVisited anys rows order far (count + 1) far'' true
visited_low anys rows order far count far' far'' low n v l =
    let a = visited_total anys rows order far count far' low v in
    let b = total_lowered anys rows far' far'' n true l refl in SomeLowered refl (omega arith)

pub visited_on : (anys : List Bool) (rows : List (List ℕ)) (order : List ℕ) (far : List (Option ℕ)) (count : ℕ) (far' far'' : List (Option ℕ)) (low : Bool) (n : ℕ)
    → IsVisited anys rows order far count far' low → slice_get order count ≡ Some n → IsLowered far' n (lowers anys rows far' n) far'' false → IsVisited anys rows order far (count + 1) far'' low
visited_on anys rows order far count far' far'' low n v o (Lowered e new same el) = absurd (let bad : false ≡ true = el in cc bad)
visited_on anys rows order far count far' far'' low n (SomeLowered e lt) o (Same new same el) = SomeLowered e (subst (λ (z : List (Option ℕ)). total z < total far) (sym same) lt)
visited_on anys rows order far count far' far'' low n (NoneLowered e was s) o (Same new same el) = NoneLowered e (same ∙ was) each
  where
    each : (i m : ℕ) → i < count + 1 → slice_get order i ≡ Some m → lowers anys rows far m ≡ None
    each i m less a = elim (cases_lt i count) [
      | inl lt ↦ s i m lt a
      | inr le ↦ (let here : i ≡ count = omega arith in
          let at : n ≡ m = same_Some n m (sym o ∙ ap (λ (z : ℕ). slice_get order z) (sym here) ∙ a) in
          subst (λ (z : ℕ). lowers anys rows far z ≡ None) at (subst (λ (z : List (Option ℕ)). lowers anys rows z n ≡ None) was new))
    ]

-- how much is left to do
abbrev pub left_of : List (Option ℕ) → Bool → ℕ
left_of far true = suc (total far)
left_of far false = total far

pub visited_less : (anys : List Bool) (rows : List (List ℕ)) (order : List ℕ) (far : List (Option ℕ)) (count : ℕ) (far' : List (Option ℕ)) (low before : Bool) → before ≡ true
    → IsVisited anys rows order far count far' low → left_of far' low < left_of far before
visited_less anys rows order far count far' low before y (SomeLowered e lt) = rw (y, e) (omega arith)
visited_less anys rows order far count far' low before y (NoneLowered e same s) = rw (y, e, same) (omega arith)

pub visited_settled : (anys : List Bool) (rows : List (List ℕ)) (order : List ℕ) (far far' : List (Option ℕ)) (low : Bool) → IsVisited anys rows order far (length order) far' low → low ≡ false
    → AreSettled anys rows order far'
visited_settled anys rows order far far' low (SomeLowered e lt) y = absurd (let bad : true ≡ false = sym e ∙ y in cc bad)
visited_settled anys rows order far far' low (NoneLowered e same s) y = λ i n o. subst (λ (z : List (Option ℕ)). lowers anys rows z n ≡ None) (sym same) (s i n (at_short order i n o) o)

pub any_length : (sub above : Machine_data) (bound : ℕ) (found : Candidates) → AreFoundCandidates sub above bound found → length found.anys.items ≡ length found.table.spots
any_length sub above bound found f = ap (λ (z : List Bool). length z) f.noted.anys ∙ length-map found.table.spots (is_any sub above bound)

-- the places in the order

pub bounds_none : (sub above : Machine_data) (bound : ℕ) (found : Candidates) (order : List ℕ) (far : List (Option ℕ)) → AreFoundCandidates sub above bound found
    → far ≡ replicate (length found.anys.items) None → AreBoundsTo sub above bound found.table.spots order 0 far
bounds_none sub above bound found order far f e = record {
  size = ap (λ (z : List (Option ℕ)). length z) e ∙ length-replicate {A = Option ℕ} (length found.anys.items) None ∙ any_length sub above bound found f;
  low = λ n d h. absurd (none-some d (sym (none n) ∙ h));
  within = λ n d x g h. absurd (none-some d (sym (none n) ∙ h));
  known = λ i n lt. (let bad : ⊥ = omega arith in absurd bad);
}
  where
    none : (n : ℕ) → far_at far n ≡ None
    none n = rw e (elim (cases_lt n (length found.anys.items)) [
      | inl a ↦ get_or-replicate (length found.anys.items) n None None a
      | inr a ↦ get_or_past (replicate (length found.anys.items) None) n None (let l = length-replicate {A = Option ℕ} (length found.anys.items) None in omega arith)
    ])

pub bounds_on : (sub above : Machine_data) (bound : ℕ) (spots : List Spot) (order : List ℕ) (count : ℕ) (far : List (Option ℕ)) (n : ℕ) → AreInOrder sub above bound spots order
    → AreBoundsTo sub above bound spots order count far → slice_get order count ≡ Some n → AreBoundsTo sub above bound spots order (count + 1) (set far n (Some count))
bounds_on sub above bound spots order count far n o b e =
    let k = bounds_set sub above bound spots order count far n count b here (let w = at_short order count n e in let z = o.few in omega arith) (λ x g. o.dies count n x e g) in
    record {
      size = k.size;
      low = k.low;
      within = k.within;
      known = λ i m less a. elim (cases_lt i count) [
        | inl lt ↦ k.known i m lt a
        | inr le ↦ (let same : i ≡ count = omega arith in
            let at : n ≡ m = same_Some n m (sym e ∙ ap (λ (z : ℕ). slice_get order z) (sym same) ∙ a) in
            (count, ap (λ (z : ℕ). far_at (set far n (Some count)) z) (sym at) ∙ set_same far n count (let s = b.size in let h = here in omega arith)))
      ];
    }
  where
    here : n < length spots
    here = o.within count n e

-- the walk

-- the number of a spot that dies after so many moves
far_is : (sub above : Machine_data) (bound : ℕ) (spots : List Spot) (far : List (Option ℕ)) → AreDeaths sub above bound spots far → (n d : ℕ) (x : Spot) → slice_get spots n ≡ Some x
    → DiesAfter sub above bound d x → far_at far n ≡ Some d
far_is sub above bound spots far a n d x e h =
    let k = a.all n x e (λ alive. lost sub above bound d x h.within alive) in
    k.1 ∙ ap Some (one_after sub above bound k.0 d x (a.each n k.0 x e k.1) h)

pub deaths_downhill : (sub above : Machine_data) (bound : ℕ) (found : Candidates) (far : List (Option ℕ)) → AreFoundCandidates sub above bound found → AreDeaths sub above bound found.table.spots far
    → AreDownhill (length found.table.spots) found.table.rows far
deaths_downhill sub above bound found far f a = record {
  rows_size = f.discovery.all;
  size = a.size;
  within = λ n r m. (let k = rows_within (nexts_within sub above bound) (start_spot sub above) found.table.spots found.table.rows f.discovery n r m in let s = f.discovery.all in omega arith);
  tight = λ n d h. (
      let x = at_within found.table.spots n (let w = far_within far n (suc d) h in let s = a.size in omega arith) in
      let s = dying_step sub above bound d x.0 (a.each n (suc d) x.0 x.1 h) in
      let r = spot_named found.table.spots (get_or found.table.rows n []) (nexts_within sub above bound x.0) s.0.place s.0.spot
      (names_at sub above bound found.table.spots found.table.rows found.anys.items (known sub above bound found f) n x.0 x.1) s.1.leads in
      (r.0, in_at (get_or found.table.rows n []) s.0.place r.0 r.1, far_is sub above bound found.table.spots far a r.0 d s.0.spot r.2 s.1.to));
}

-- steps that go nearer make the walk along which the spot dies
record Nearer (sub above : Machine_data) (bound : ℕ) (spots : List Spot) (far : List (Option ℕ)) (n : ℕ) (x : Spot) (steps : List WalkStep_data) (last : ℕ) : Type 0 where
  pub walk : IsDyingWalk sub above bound x steps
  pub size : far_at far n ≡ Some (length steps)
  pub stands : slice_get spots last ≡ Some (end_of x steps)

-- one step and then such a walk
nearer_by : (sub above : Machine_data) (bound : ℕ) (found : Candidates) (far : List (Option ℕ)) → AreFoundCandidates sub above bound found → AreDeaths sub above bound found.table.spots far
    → (s : WalkStep_data) (rest : List WalkStep_data) (n last : ℕ) (x : Spot) (d r : ℕ) → slice_get found.table.spots n ≡ Some x → far_at far n ≡ Some (suc d)
    → IsStepTo found.table.spots 0 (get_or found.table.rows n []) far d r s → Nearer sub above bound found.table.spots far r s.spot rest last
    → Nearer sub above bound found.table.spots far n x (s ∷ rest) last
nearer_by sub above bound found far f a s rest n last x d r e h t on = record {
  walk = (record { from = from; leads = leads; to = to; first = first }, on.walk);
  size = h ∙ ap (λ (z : ℕ). Some (suc z)) (sym size);
  stands = on.stands;
}
  where
    size : length rest ≡ d
    size = same_Some (length rest) d (sym on.size ∙ ap (λ (z : ℕ). far_at far z) (sym t.number_is) ∙ t.first.far_is)

    from : DiesAfter sub above bound (suc (length rest)) x
    from = subst (λ (z : ℕ). DiesAfter sub above bound (suc z) x) (sym size) (a.each n (suc d) x e h)

    names : ArePlacesOf found.table.spots (get_or found.table.rows n []) (nexts_within sub above bound x)
    names = names_at sub above bound found.table.spots found.table.rows found.anys.items (known sub above bound found f) n x e

    place : s.place ≡ t.index
    place = let z = t.place_is in omega arith

    leads : LeadsBy sub above bound x s.place s.spot
    leads = (
        let k = place_named found.table.spots (get_or found.table.rows n []) (nexts_within sub above bound x) t.index r names (t.first.stands ∙ ap Some t.number_is) in
        ap (λ (z : ℕ). slice_get (nexts_within sub above bound x) z) place ∙ k.1 ∙ sym k.2 ∙ t.spot_is)

    to : DiesAfter sub above bound (length rest) s.spot
    to = a.each r (length rest) s.spot t.spot_is on.size

    first : (i : ℕ) (q : Spot) → LeadsBy sub above bound x i q → DiesAfter sub above bound (length rest) q → s.place ≤ i
    first i q l g = elim (cases_lt i t.index) [
      | inr le ↦ (let z = place in omega arith)
      | inl lt ↦ (let k = spot_named found.table.spots (get_or found.table.rows n []) (nexts_within sub above bound x) i q names l in
          absurd (t.first.before i k.0 lt k.1 (far_is sub above bound found.table.spots far a k.0 d q k.2 (subst (λ (z : ℕ). DiesAfter sub above bound z q) size g))))
    ]

nearer : (sub above : Machine_data) (bound : ℕ) (found : Candidates) (far : List (Option ℕ)) → AreFoundCandidates sub above bound found → AreDeaths sub above bound found.table.spots far
    → (steps : List WalkStep_data) (n last : ℕ) (x : Spot) → slice_get found.table.spots n ≡ Some x → GoNearer found.table.spots (λ m. 0) found.table.rows far n steps last
    → Nearer sub above bound found.table.spots far n x steps last
nearer sub above bound found far f a [] n last x e g = record {
  walk = (a.each n 0 x e g.0).within;
  size = g.0;
  stands = ap (λ (z : ℕ). slice_get found.table.spots z) g.1 ∙ e;
}
nearer sub above bound found far f a (s ∷ rest) n last x e g =
    nearer_by sub above bound found far f a s rest n last x g.0 g.1 e g.2 g.3 (nearer sub above bound found far f a rest g.1 last s.spot g.3.spot_is g.4)

pub dying_way : (sub above : Machine_data) (bound : ℕ) (found : Candidates) (far : List (Option ℕ)) → AreFoundCandidates sub above bound found → AreDeaths sub above bound found.table.spots far
    → (steps : List WalkStep_data) (last : ℕ) → GoNearer found.table.spots (λ m. 0) found.table.rows far 0 steps last → IsDyingWay sub above bound found.table.spots steps last
dying_way sub above bound found far f a steps last g =
    let k = nearer sub above bound found far f a steps 0 last (start_spot sub above) f.discovery.first g in record { walk = k.walk; stands = k.stands }

-- what the code reads

pub lowers_read : (anys : List Bool) (rows : List (List ℕ)) (far far' : List (Option ℕ)) (n : ℕ) (was new low : Option ℕ) (any : Bool) (row row' : List ℕ) → far' ≡ far
    → n < length far → n < length anys → was ≡ get_or far n was → any ≡ get_or anys n any → slice_get rows n ≡ Some row' → row ≡ row' → new ≡ given far' any row → low ≡ lesser_given was new
    → lowers anys rows far n ≡ low
lowers_read anys rows far far' n was new low any row row' ef lf la ew ea er es en el =
    let a = far_read far n was lf ew in
    let b = flag_read anys n any la ea in
    let c : get_or rows n [] ≡ row = got rows n row' [] er ∙ sym es in
    ap (λ (z : Option ℕ). lesser_given z (given far (get_or anys n false) (get_or rows n []))) a
    ∙ ap (λ (z : Bool). lesser_given was (given far z (get_or rows n []))) b
    ∙ ap (λ (z : List ℕ). lesser_given was (given far any z)) c
    ∙ ap (λ (z : List (Option ℕ)). lesser_given was (given z any row)) (sym ef)
    ∙ ap (λ (z : Option ℕ). lesser_given was z) (sym en) ∙ sym el

pub row_known : (sub above : Machine_data) (bound : ℕ) (found : Candidates) → AreFoundCandidates sub above bound found → (n r count : ℕ) → count ≡ length found.table.spots
    → Among (get_or found.table.rows n []) r → r < count
row_known sub above bound found f n r count e m =
    let k = rows_within (nexts_within sub above bound) (start_spot sub above) found.table.spots found.table.rows f.discovery n r m in let s = f.discovery.all in omega arith
