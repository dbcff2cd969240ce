-- Where the start doesn't survive there is an explanation, and one only: the removal of the candidates, carried out on the definitions.
use Rattle.std.proofs.Common.{◌≡◌, ◌≢◌, ◌⊎◌, inl, inr, ℕ, ◌<◌, ◌≤◌, zero, suc, Bool, true, false, List, [], ◌∷◌, get_or, slice_get, Option, Some, refl, sym, ap, subst, ◌∙◌, arith, if◌then◌else◌}
use Rattle.std.proofs.lemmas.Bool.{cases_lt, false≢true}
use Rattle.std.proofs.lemmas.List.{get_or_past}
use Rattle.std.proofs.lemmas.Option.{none-some, same_Some}
use Rattle.rs_model.specs.Data.{Machine_data}
use Rattle.rs_model.specs.declared.limits.TheConstants.{MOST_CANDIDATES}
use Rattle.rs_derive.proofs.Rows.{complete}
use Rattle.rs_derive.specs.Data.{DNode_data, Derivation_data}
use Rattle.rs_derive.specs.Derivations.{IsDerivation, IsProper, NameResults, spot_of}
use Rattle.rs_derive.specs.Due.{Due}
use Rattle.rs_derive.specs.Moves.{HasMove, Spot}
use Rattle.rs_derive.specs.Targets.{same_spot}
use Rattle.rs_graph.proofs.Kept.{Pictures}
use Rattle.rs_graph.proofs.Growth.{all_found, at_in, at_short, growing_begin}
use Rattle.rs_graph.specs.Discovery.{IsDiscovery}
use Rattle.rs_graph.specs.Graphs.{Graph_data, moves_of}
use Rattle.rs_graph.specs.Lists.{Among, ArePlacesOf, concat}
use Rattle.rs_graph.specs.Removal.{IsRemoval, Leads, at}
use Rattle.rs_graph.specs.Removal as removal
use Rattle.rs_search.proofs.Accepted.{named_result}
use Rattle.rs_search.proofs.Choices.{bool_cases, chosen_among, from_move, moves_at, more_no, to_cut}
use Rattle.rs_search.proofs.Deciding.{graph_outs, graph_pictures, graph_within, outs_at, row_at}
use Rattle.rs_search.proofs.Determined.{starts_survive}
use Rattle.rs_search.proofs.Discovering.{Tells, discovered}
use Rattle.rs_search.proofs.Removing.{left}
use Rattle.rs_search.proofs.Same.{not_spot, spot_is}
use Rattle.rs_search.proofs.Staying.{stays_within}
use Rattle.rs_search.proofs.Surviving.{derived_survives}
use Rattle.rs_search.proofs.Verdicts.{candidate_short, dies, from_candidate, more_than, survives, to_candidate}
use Rattle.rs_search.specs.Candidates.{AreMoreThan, IsCandidate, MoveWithin, Start, start_spot}
use Rattle.rs_search.specs.Canonical.{IsCanonical, IsNotFound}
use Rattle.rs_search.specs.Survives.{StandTogether, Survives}
use Rattle.rs_search.specs.Turns.{is_any, no_turn, nexts_within, owes_more, turn_of, turn_with_cut, turn_within}
use Rattle.rs_explain.proofs.Blocking.{no_move, one_obstacle, some_obstacle}
use Rattle.rs_explain.proofs.Dying.{dies_within, dying_dead, dying_leads, dying_lost, one_dying, some_dying}
use Rattle.rs_explain.proofs.Firsts.{Decides, end_candidate, first_cut_walk}
use Rattle.rs_explain.proofs.Ways.{step}
use Rattle.rs_explain.specs.Explanations.{AGreaterBoundHelps, EndsBy, Explanation_data, IsExplanation}
use Rattle.rs_explain.specs.Obstacles.{HasNoMove}
use Rattle.rs_explain.specs.Walks.{Dies, DiesWithin, IsCutWalk, IsDeadEnd, IsDyingWalk, IsFirstCutWalk, IsForced, IsHelped, LeadsBy, WalkStep_data, end_of}
use Rattle.rs_explain.specs.declared.explaining.Ending.{Ending}
use Rattle.rs_explain.specs.declared.explaining.Ending.TheVariants as ending
use Rattle.rs_explain.specs.declared.obstacles.Obstacle.{Obstacle}

same_spots : Tells Spot
same_spots p q = told (same_spot p q) refl
  where
    told : (b : Bool) → same_spot p q ≡ b → (p ≡ q) ⊎ (p ≡ q → ⊥)
    told true e = inl (spot_is p q e)
    told false e = inr (not_spot p q e)

-- the candidates, and what is left of their graph
record Removed (sub above : Machine_data) (bound : ℕ) : Type 0 where
  pub found : List Spot
  pub rows : List (List ℕ)
  pub discovery : IsDiscovery (nexts_within sub above bound) (start_spot sub above) found rows
  pub current : List ℕ
  pub order : List ℕ
  pub gone : IsRemoval (graph_outs sub above bound found rows) current order

removed : (sub above : Machine_data) (bound : ℕ) → (AreMoreThan sub above bound MOST_CANDIDATES → ⊥) → Removed sub above bound
removed sub above bound few = elim (discovered same_spots (nexts_within sub above bound) (start_spot sub above) MOST_CANDIDATES (suc MOST_CANDIDATES) (start_spot sub above ∷ []) [] (omega arith)
    (omega arith) (growing_begin (nexts_within sub above bound) (start_spot sub above))) [
      | inr m ↦ absurd (few (more_than sub above bound MOST_CANDIDATES m))
      | inl w ↦ (let l = left (graph_outs sub above bound w.found w.rows) (graph_within sub above bound w.found w.rows w.discovery) in
          record { found = w.found; rows = w.rows; discovery = w.discovery; current = l.current; order = l.order; gone = l.removal })
    ]

abbrev graph : (sub above : Machine_data) (bound : ℕ) → Removed sub above bound → Graph_data
graph sub above bound r = record { outs = graph_outs sub above bound r.found r.rows; intos = [] }

-- each candidate survives, or doesn't
decides : (sub above : Machine_data) (bound : ℕ) → Removed sub above bound → Decides sub above bound
decides sub above bound r p c =
    let n = at_in r.found p (all_found (nexts_within sub above bound) (start_spot sub above) r.found r.rows r.discovery p (from_candidate sub above bound p c)) in
    let pic = graph_pictures sub above bound r.found r.rows r.discovery in
    elim (cases_lt (at r.current n.0) (removal.moves_at (graph_outs sub above bound r.found r.rows) n.0)) [
      | inl lt ↦ inl (survives sub above bound r.found r.rows (graph sub above bound r) r.current r.order r.discovery pic r.gone n.0 p n.1 lt)
      | inr le ↦ inr (dies sub above bound r.found (graph sub above bound r) r.current r.order pic r.gone n.0 p n.1 le)
    ]

pub row_from : (any : Bool) (row : List ℕ) (place r : ℕ) → Among (get_or (moves_of any row) place []) r → Among row r
row_from true [] place r h = (let e : get_or {A = List ℕ} [] place [] ≡ [] = get_or_past [] place [] (omega arith) in let bad : Among [] r = subst (λ (z : List ℕ). Among z r) e h in absurd bad)
row_from true (n ∷ row) zero r (inl e) = inl e
row_from true (n ∷ row) zero r (inr h) = absurd h
row_from true (n ∷ row) (suc place) r h = inr (row_from true row place r h)
row_from false row zero r h = h
row_from false row (suc place) r h = (let e : get_or {A = List ℕ} [] place [] ≡ [] = get_or_past [] place [] (omega arith) in let bad : Among [] r = subst (λ (z : List ℕ). Among z r) e h in absurd bad)

pub place_named : {X : Type 0} (found : List X) (ns : List ℕ) (xs : List X) (i n : ℕ) → ArePlacesOf found ns xs → slice_get ns i ≡ Some n → (y : X) × (slice_get xs i ≡ Some y) × (slice_get found n ≡ Some y)
place_named found [] [] i n h e = absurd (none-some n e)
place_named found [] (x ∷ xs) i n h e = absurd h
place_named found (m ∷ ns) [] i n h e = absurd h
place_named found (m ∷ ns) (x ∷ xs) zero n h e = (x, refl, subst (λ (z : ℕ). slice_get found z ≡ Some x) (same_Some m n e) h.0)
place_named found (m ∷ ns) (x ∷ xs) (suc i) n h e = place_named found ns xs i n h.1 e

-- a result of the move at that place, which was removed before
record Before (sub above : Machine_data) (bound : ℕ) (r : Removed sub above bound) (i : ℕ) (x : Spot) (move : List Spot) : Type 0 where
  pub index : ℕ
  pub early : index < i
  pub number : ℕ
  pub stands : slice_get r.order index ≡ Some number
  pub spot : Spot
  pub spot_is : slice_get r.found number ≡ Some spot
  pub place : ℕ
  pub leads : LeadsBy sub above bound x place spot
  pub among : Among move spot

before : (sub above : Machine_data) (bound : ℕ) (r : Removed sub above bound) (i n place : ℕ) (x : Spot) (move : List Spot) → slice_get r.order i ≡ Some n → slice_get r.found n ≡ Some x
    → slice_get (moves_at sub above bound x) place ≡ Some move → Before sub above bound r i x move
before sub above bound r i n place x move o f e =
    let outs = graph_outs sub above bound r.found r.rows in
    let pic = graph_pictures sub above bound r.found r.rows r.discovery in
    let k = pic.count n x f in
    let w = at_short (moves_at sub above bound x) place move e in
    let b = r.gone.ordered i n place o (omega arith) in
    let row = row_at sub above bound r.found r.rows r.discovery n x f in
    let m = row_from (is_any sub above bound x) row.0 place b.result
    (subst (λ (z : List (List ℕ)). Among (get_or z place []) b.result) (outs_at (is_any sub above bound) r.found r.rows n x row.0 f row.1) b.leads) in
    let at = at_in row.0 b.result m in
    let y = place_named r.found row.0 (nexts_within sub above bound x) at.0 b.result (r.discovery.names n x row.0 f row.1) at.1 in
    let z = named_result r.found (get_or (get_or outs n []) place []) move (pic.names n place x move f e) b.result b.leads in
    record {
      index = b.index;
      early = b.early;
      number = b.result;
      stands = b.stands;
      spot = y.0;
      spot_is = y.2;
      place = at.0;
      leads = y.1;
      among = subst (λ (v : Spot). Among move v) (same_Some z.0 y.0 (sym z.1 ∙ y.2)) z.2;
    }

-- each spot that is removed dies
gone_die : (sub above : Machine_data) (bound : ℕ) (r : Removed sub above bound) (i n : ℕ) (x : Spot) → slice_get r.order i ≡ Some n → slice_get r.found n ≡ Some x → Dies sub above bound x
gone_die sub above bound r i n x o f =
    let g = r.gone.gone i n o in
    dies sub above bound r.found (graph sub above bound r) r.current r.order (graph_pictures sub above bound r.found r.rows r.discovery) r.gone n x f (let q = g.1 in omega arith)

helped_on : (sub above : Machine_data) (bound greater : ℕ) (p : Spot) (place : ℕ) (q : Spot) (later : List WalkStep_data) → IsHelped sub above bound greater p → LeadsBy sub above bound p place q
    → IsCutWalk sub above bound greater q later → IsCutWalk sub above bound greater p (step place q ∷ later)
helped_on sub above bound greater p place q later h e l = record { walk = (e, l.walk); helped = (h, l.helped); ends = l.ends }

-- a result of the move at that place, which was removed before
pub soon : (sub above : Machine_data) (bound : ℕ) (found : List Spot) (outs : List (List (List ℕ))) (current order : List ℕ) → Pictures (moves_at sub above bound) found outs
    → IsRemoval outs current order → (i n place : ℕ) (x : Spot) (move : List Spot) → slice_get order i ≡ Some n → slice_get found n ≡ Some x
    → slice_get (moves_at sub above bound x) place ≡ Some move
    → (index number : ℕ) × (index < i) × (slice_get order index ≡ Some number) × (r : Spot) × (slice_get found number ≡ Some r) × Among move r
soon sub above bound found outs current order pic gone i n place x move o f e =
    let k = pic.count n x f in
    let w = at_short (moves_at sub above bound x) place move e in
    let b = gone.ordered i n place o (omega arith) in
    let z = named_result found (get_or (get_or outs n []) place []) move (pic.names n place x move f e) b.result b.leads in
    (b.index, b.result, b.early, b.stands, z.0, z.1, z.2)

-- each spot that is removed dies within as many moves as nodes were removed before
pub order_dies : (sub above : Machine_data) (bound : ℕ) (found : List Spot) (outs : List (List (List ℕ))) (current order : List ℕ) → Pictures (moves_at sub above bound) found outs
    → IsRemoval outs current order → (most i n : ℕ) (x : Spot) → i ≤ most → slice_get order i ≡ Some n → slice_get found n ≡ Some x → DiesWithin sub above bound i x
order_dies sub above bound found outs current order pic gone most zero n x le o f = λ rs m. (
    let p = at_in (moves_at sub above bound x) rs (from_move sub above bound x rs m) in
    let b = soon sub above bound found outs current order pic gone 0 n p.0 x rs o f p.1 in
    let z = b.2 in let bad : ⊥ = omega arith in bad)
order_dies sub above bound found outs current order pic gone zero (suc i) n x le o f = let bad : ⊥ = omega arith in absurd bad
order_dies sub above bound found outs current order pic gone (suc most) (suc i) n x le o f = λ rs m. (
    let p = at_in (moves_at sub above bound x) rs (from_move sub above bound x rs m) in
    let b = soon sub above bound found outs current order pic gone (suc i) n p.0 x rs o f p.1 in
    let z = b.2 in
    (b.4, b.6, dies_within sub above bound b.0 i b.4 (omega arith) (order_dies sub above bound found outs current order pic gone most b.0 b.1 b.4 (omega arith) b.3 b.5)))

-- the start stands in the order, where it doesn't survive
start_gone : (sub above : Machine_data) (bound : ℕ) (r : Removed sub above bound) → Dies sub above bound (start_spot sub above) → (i : ℕ) × (slice_get r.order i ≡ Some 0)
start_gone sub above bound r d =
    let outs = graph_outs sub above bound r.found r.rows in
    let pic = graph_pictures sub above bound r.found r.rows r.discovery in
    let w = r.gone.within 0 in
    let full : at r.current 0 ≡ removal.moves_at outs 0 = elim (cases_lt (at r.current 0) (removal.moves_at outs 0)) [
      | inl lt ↦ absurd (d (survives sub above bound r.found r.rows (graph sub above bound r) r.current r.order r.discovery pic r.gone 0 (start_spot sub above) r.discovery.first lt))
      | inr le ↦ omega arith
    ] in
    let s = pic.size in
    let k = at_short r.found 0 (start_spot sub above) r.discovery.first in
    at_in r.order 0 (r.gone.listed 0 (omega arith) full)

-- the start dies within some moves, where it doesn't survive
pub start_dies : (sub above : Machine_data) (bound : ℕ) → (AreMoreThan sub above bound MOST_CANDIDATES → ⊥) → (Survives sub above bound (start_spot sub above) → ⊥)
    → (n : ℕ) × DiesWithin sub above bound n (start_spot sub above)
start_dies sub above bound few d =
    let r = removed sub above bound few in
    let i = start_gone sub above bound r d in (
      i.0,
      order_dies sub above bound r.found (graph_outs sub above bound r.found r.rows) r.current r.order (graph_pictures sub above bound r.found r.rows r.discovery) r.gone i.0 i.0 0
          (start_spot sub above) (omega arith) i.1 r.discovery.first,
    )

-- then there is a walk along which it dies
pub walk_from_start : (sub above : Machine_data) (bound : ℕ) (cut : Bool) → IsNotFound sub above bound cut → (steps : List WalkStep_data) × IsDyingWalk sub above bound (start_spot sub above) steps
walk_from_start sub above bound cut nf = let n = start_dies sub above bound nf.bounded nf.dies in some_dying sub above bound n.0 (start_spot sub above) n.1

-- where no move is taken away

-- where the bound takes no move away each move is within it
pub uncut_within : (sub above : Machine_data) (bound : ℕ) (p : Spot) (makes : Option ℕ) (rs : List Spot) → (turn_within sub above bound p).cut ≡ false → HasMove sub above p makes rs → MoveWithin sub above bound p rs
uncut_within sub above bound p makes rs e m =
    let t = complete sub above p makes rs m in
    let e' : (turn_with_cut bound (turn_of (Some t.d))).cut ≡ false = subst (λ (o : Option Due). (turn_with_cut bound (turn_of o)).cut ≡ false) t.due_is e in
    elim (bool_cases (owes_more bound (concat t.d.nexts))) [
      | inl y ↦ (let k : true ≡ false = subst (λ (b : Bool). (if b then no_turn true else turn_of (Some t.d)).cut ≡ false) y e' in absurd (false≢true (sym k)))
      | inr f ↦ record { makes = makes; move = m; short = λ r k. more_no bound (concat t.d.nexts) f r (chosen_among t.d.nexts rs t.picks r k) }
    ]

-- walks to a cut

-- from each spot that is removed, and survives within a greater bound, a walk leads to a cut
cut_way : (sub above : Machine_data) (bound greater : ℕ) (r : Removed sub above bound) (set : List Spot) → StandTogether sub above greater set
    → (most i n : ℕ) (x : Spot) → i < most → slice_get r.order i ≡ Some n → slice_get r.found n ≡ Some x → Among set x
    → (steps : List WalkStep_data) × IsCutWalk sub above bound greater x steps
cut_way sub above bound greater r set st zero i n x lt o f h = let bad : ⊥ = omega arith in absurd bad
cut_way sub above bound greater r set st (suc most) i n x lt o f h =
    let d : IsHelped sub above bound greater x = record { dies = gone_die sub above bound r i n x o f; survives = record { set = set; stand = st; among = h } } in
    let c = to_candidate sub above bound x (r.discovery.reached n x f) in
    elim (bool_cases (turn_within sub above bound x).cut) [
      | inl y ↦ ([], record { walk = tt; helped = d; ends = to_cut sub above bound x (candidate_short sub above bound x c) y })
      | inr k ↦ (
          let s = st.each x h in
          let m = uncut_within sub above bound x s.move.makes s.results k s.move.move in
          let p = at_in (moves_at sub above bound x) s.results (from_move sub above bound x s.results m) in
          let b = before sub above bound r i n p.0 x s.results o f p.1 in
          let e = b.early in
          let on = cut_way sub above bound greater r set st most b.index b.number b.spot (omega arith) b.stands b.spot_is (s.all b.spot b.among) in
          (step b.place b.spot ∷ on.0, helped_on sub above bound greater x b.place b.spot on.0 d b.leads on.1))
    ]

-- where the start survives within a greater bound only, there is a first walk to a cut
pub cut_from_start : (sub above : Machine_data) (bound greater : ℕ) (cut : Bool) → IsNotFound sub above bound cut → AGreaterBoundHelps sub above bound greater
    → (steps : List WalkStep_data) × IsFirstCutWalk sub above bound greater (start_spot sub above) steps
cut_from_start sub above bound greater cut nf g =
    let r = removed sub above bound nf.bounded in
    let w = removed sub above greater g.bounded in
    let i = start_gone sub above bound r nf.dies in
    let l = cut_way sub above bound greater r g.survives.set g.survives.stand (suc i.0) i.0 0 (start_spot sub above) (omega arith) i.1 r.discovery.first g.survives.among in
    first_cut_walk sub above bound greater g.more (decides sub above bound r) (decides sub above greater w) (start_spot sub above) Start l.0 l.1

-- a canonical derivation within a greater bound tells that it helps
pub canonical_helps : (sub above : Machine_data) (bound greater : ℕ) (d : Derivation_data) → bound ≤ greater → IsCanonical sub above greater d → AGreaterBoundHelps sub above bound greater
canonical_helps sub above bound greater d le c = record { more = le; bounded = c.bounded; survives = starts_survive sub above greater d c.canonical }

-- why a walk ends at a dead end

pub ending_of : (sub above : Machine_data) (bound : ℕ) → IsProper sub → IsProper above → (p : Spot) → IsCandidate sub above bound p → IsDeadEnd sub above bound p
    → (e : Ending) × EndsBy sub above bound p e
ending_of sub above bound ws wa p c d = elim (bool_cases (turn_within sub above bound p).cut) [
  | inl y ↦ (ending.Cut, to_cut sub above bound p (candidate_short sub above bound p c) y)
  | inr f ↦ (let w = stays_within sub above bound ws wa p c in
      let o = some_obstacle sub above p wa w.state w.present (λ makes rs m. d rs (uncut_within sub above bound p makes rs f m)) in
      (ending.Blocked o.0, o.1))
]

pub some_explanation : (sub above : Machine_data) (bound : ℕ) (cut : Bool) → IsProper sub → IsProper above → IsNotFound sub above bound cut
    → (e : Explanation_data) × IsExplanation sub above bound e
some_explanation sub above bound cut ws wa nf =
    let f = walk_from_start sub above bound cut nf in
    let c = end_candidate sub above bound (start_spot sub above) f.0 Start (dying_leads sub above bound (start_spot sub above) f.0 f.1) in
    let e = ending_of sub above bound ws wa (end_of (start_spot sub above) f.0) c (dying_dead sub above bound (start_spot sub above) f.0 f.1) in
    (record { steps = f.0; ending = e.0 }, record { walk = f.1; ending = e.1 })

-- there is one at most

one_ending : (sub above : Machine_data) (bound : ℕ) (p : Spot) (a b : Ending) → EndsBy sub above bound p a → EndsBy sub above bound p b → a ≡ b
one_ending sub above bound p (ending.Blocked o) (ending.Blocked o') h k = ap (λ (z : Obstacle). ending.Blocked z) (one_obstacle sub above p o o' h k)
one_ending sub above bound p (ending.Blocked o) ending.Cut h k = absurd (no_move sub above p o h k.makes k.results k.move)
one_ending sub above bound p ending.Cut (ending.Blocked o) h k = absurd (no_move sub above p o k h.makes h.results h.move)
one_ending sub above bound p ending.Cut ending.Cut h k = refl

same_explanation : (a b : Explanation_data) → a.steps ≡ b.steps → a.ending ≡ b.ending → a ≡ b
same_explanation a b e f = rw (e, f) refl

pub one_explanation : (sub above : Machine_data) (bound : ℕ) (a b : Explanation_data) → IsExplanation sub above bound a → IsExplanation sub above bound b → a ≡ b
one_explanation sub above bound a b h k =
    let e = one_dying sub above bound (start_spot sub above) a.steps b.steps h.walk k.walk in
    same_explanation a b e
    (one_ending sub above bound (end_of (start_spot sub above) b.steps) a.ending b.ending
    (subst (λ (z : List WalkStep_data). EndsBy sub above bound (end_of (start_spot sub above) z) a.ending) e h.ending) k.ending)

-- what an explanation certifies

pub none_within : (sub above : Machine_data) (bound : ℕ) (e : Explanation_data) (d : Derivation_data) → IsExplanation sub above bound e → IsDerivation d sub above → d.bound ≤ bound → ⊥
none_within sub above bound e d h v le = dying_lost sub above bound (start_spot sub above) e.steps h.walk (derived_survives sub above bound d v le)

named : (nodes : List DNode_data) (js : List ℕ) (rs : List Spot) (r : Spot) → NameResults nodes js rs → Among rs r → (j : ℕ) × (m : DNode_data) × (slice_get nodes j ≡ Some m) × (spot_of m ≡ r)
named nodes js [] r h m = absurd m
named nodes [] (x ∷ rs) r h m = absurd h
named nodes (j ∷ js) (x ∷ rs) r h (inl e) = (j, h.0.0, h.0.1, h.0.2 ∙ e)
named nodes (j ∷ js) (x ∷ rs) r h (inr m) = named nodes js rs r h.1 m

-- a derivation has a node at each spot of a walk without a choice
forced_on : (sub above : Machine_data) (d : Derivation_data) → IsDerivation d sub above → (p : Spot) (steps : List WalkStep_data) (i : ℕ) (n : DNode_data) → slice_get d.nodes i ≡ Some n → spot_of n ≡ p
    → IsForced sub above p steps → HasNoMove sub above (end_of p steps) → ⊥
forced_on sub above d v p [] i n g e f stuck =
    let fit = v.each i n g in
    stuck fit.makes fit.results (subst (λ (z : Spot). HasMove sub above z fit.makes fit.results) e fit.move)
forced_on sub above d v p (s ∷ later) i n g e f stuck =
    let fit = v.each i n g in
    let m = f.0 fit.makes fit.results (subst (λ (z : Spot). HasMove sub above z fit.makes fit.results) e fit.move) in
    let k = named d.nodes n.next fit.results s.spot fit.named m in
    forced_on sub above d v s.spot later k.0 k.1 k.2 k.3 f.1 stuck

pub certified : (sub above : Machine_data) (steps : List WalkStep_data) (d : Derivation_data) → IsForced sub above (start_spot sub above) steps
    → HasNoMove sub above (end_of (start_spot sub above) steps) → IsDerivation d sub above → ⊥
certified sub above steps d f stuck v = forced_on sub above d v (start_spot sub above) steps 0 v.first v.stands v.starts f stuck

-- where no candidate meets a cut the walk doesn't end at one
pub uncut_blocked : (sub above : Machine_data) (bound : ℕ) (e : Explanation_data) → IsNotFound sub above bound false → IsExplanation sub above bound e → e.ending ≢ ending.Cut
uncut_blocked sub above bound e nf h q =
    let c = end_candidate sub above bound (start_spot sub above) e.steps Start (dying_leads sub above bound (start_spot sub above) e.steps h.walk) in
    let cut : EndsBy sub above bound (end_of (start_spot sub above) e.steps) ending.Cut = subst (λ (z : Ending). EndsBy sub above bound (end_of (start_spot sub above) e.steps) z) q h.ending in
    false≢true (nf.cuts.1 (record { spot = end_of (start_spot sub above) e.steps; candidate = c; cut = cut }))
