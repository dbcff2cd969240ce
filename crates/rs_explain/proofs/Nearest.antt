-- The graph of the candidates that a greater bound helps charts the walks to a cut: steps that go nearer make the first of these.
use Rattle.std.proofs.Common.{◌≡◌, inl, inr, ℕ, ◌<◌, ◌≤◌, ◌+◌, ◌*◌, zero, suc, Bool, true, false, List, [], ◌∷◌, length, get_or, slice_get, Option, Some, refl, sym, ap, subst, ◌∙◌, arith}
use Rattle.std.proofs.lemmas.Bool.{cases_lt}
use Rattle.std.proofs.lemmas.List.Sums.{sum_by-cons}
use Rattle.std.proofs.lemmas.Option.{none-some, same_Some}
use Rattle.std.specs.List.{sum_by}
use Rattle.rs_model.specs.Data.{Machine_data}
use Rattle.rs_model.specs.declared.machines.State.{State}
use Rattle.rs_derive.specs.Derivations.{IsProper}
use Rattle.rs_derive.specs.Moves.{Spot}
use Rattle.rs_graph.proofs.Buckets.{got}
use Rattle.rs_graph.proofs.Growth.{at_short, at_within, in_at}
use Rattle.rs_graph.specs.Built.{IsBuilt}
use Rattle.rs_graph.specs.Discovery.{IsDiscovery}
use Rattle.rs_graph.specs.Graphs.{Graph_data, moves_of}
use Rattle.rs_graph.specs.Lists.{Among, ArePlacesOf}
use Rattle.rs_graph.specs.Removal.{edges_in}
use Rattle.rs_search.proofs.Choices.{bool_cases, to_cut}
use Rattle.rs_search.proofs.Verdicts.{candidate_short, rows_within}
use Rattle.rs_search.proofs.Staying.{stays_within}
use Rattle.rs_search.specs.Candidates.{IsCandidate, Start, start_spot}
use Rattle.rs_search.specs.Found.{AreFoundCandidates}
use Rattle.rs_search.specs.Turns.{nexts_within, turn_within}
use Rattle.rs_search.specs.declared.found.Candidates.{Candidates}
use Rattle.rs_explain.proofs.Blocking.{moves_or_obstacle}
use Rattle.rs_explain.proofs.Charts.{nearest, way_far}
use Rattle.rs_explain.proofs.Dying.{dying_dead, dying_leads}
use Rattle.rs_explain.specs.Deaths.{IsDyingWay}
use Rattle.rs_explain.proofs.Existing.{place_named, row_from, uncut_within}
use Rattle.rs_explain.proofs.Firsts.{HelpedStep, end_candidate, from_cut_walk, helped_by, to_cut_walk}
use Rattle.rs_explain.proofs.Spreading.{edges_few, flag_within}
use Rattle.rs_explain.proofs.Ways.{IsWay, first_same}
use Rattle.rs_explain.specs.Distances.{AreDistances, far_at, flag_at}
use Rattle.rs_explain.specs.Explanations.{EndsBy, IsExplanation}
use Rattle.rs_explain.specs.ObstacleAt.{obstacle_at}
use Rattle.rs_explain.specs.Helping.{IsHelpedCut}
use Rattle.rs_explain.specs.OnWay.{AreCharted, AreFlagged, GoNearer, IsLostGraph, ending_at, ending_by}
use Rattle.rs_explain.specs.Walks.{IsCutWalk, IsDeadEnd, IsFirst, IsFirstCutWalk, IsHelped, LeadsBy, WalkStep_data, end_of}
use Rattle.rs_explain.specs.declared.explaining.Ending.{Ending}
use Rattle.rs_explain.specs.declared.obstacles.Obstacle.{Obstacle}

-- the graph of the candidates tells the chart

pub row_to : (any : Bool) (row : List ℕ) (r : ℕ) → Among row r → (place : ℕ) × Among (get_or (moves_of any row) place []) r
row_to true [] r m = absurd m
row_to true (n ∷ row) r (inl e) = (zero, inl e)
row_to true (n ∷ row) r (inr m) = let k = row_to true row r m in (suc k.0, k.1)
row_to false row r m = (zero, m)

pub spot_named : {X : Type 0} (found : List X) (ns : List ℕ) (xs : List X) (i : ℕ) (y : X) → ArePlacesOf found ns xs → slice_get xs i ≡ Some y → (n : ℕ) × (slice_get ns i ≡ Some n) × (slice_get found n ≡ Some y)
spot_named found [] [] i y h e = absurd (none-some y e)
spot_named found [] (x ∷ xs) i y h e = absurd h
spot_named found (m ∷ ns) [] i y h e = absurd h
spot_named found (m ∷ ns) (x ∷ xs) zero y h e = (m, refl, h.0 ∙ e)
spot_named found (m ∷ ns) (x ∷ xs) (suc i) y h e = spot_named found ns xs i y h.1 e

row_of : (sub above : Machine_data) (bound : ℕ) (found : List Spot) (rows : List (List ℕ)) → IsDiscovery (nexts_within sub above bound) (start_spot sub above) found rows → (n : ℕ) (x : Spot)
    → slice_get found n ≡ Some x → (row : List ℕ) × (slice_get rows n ≡ Some row)
row_of sub above bound found rows d n x f = at_within rows n (let k = at_short found n x f in let s = d.all in omega arith)

pub charted : (sub above : Machine_data) (bound greater : ℕ) (Ends : Spot → Type 0) (found : List Spot) (rows : List (List ℕ)) (anys inside ends : List Bool) (g : Graph_data) (far : List (Option ℕ))
    → IsDiscovery (nexts_within sub above bound) (start_spot sub above) found rows → IsBuilt anys rows (length rows) g
    → AreFlagged (IsHelped sub above bound greater) found inside → AreFlagged Ends found ends → AreDistances g.outs inside ends far
    → AreCharted (HelpedStep sub above bound greater) Ends found (λ n. 0) rows far
charted sub above bound greater Ends found rows anys inside ends g far d b fg fe dist = record {
  downhill = record {
    rows_size = d.all;
    size = dist.steps.size ∙ b.size ∙ d.all;
    within = λ n r m. (let k = rows_within (nexts_within sub above bound) (start_spot sub above) found rows d n r m in let a = d.all in omega arith);
    tight = λ n e h. (let t = dist.steps.tight n e h in
        (t.1, row_from (get_or anys n false) (get_or rows n []) t.0 t.1 (subst (λ (z : List (List ℕ)). Among (get_or z t.0 []) t.1) (outs_row n (below n (suc e) h)) t.2), t.3));
  };
  goes = λ n i r e x y f h a fy. (
      let row = row_of sub above bound found rows d n x f in
      let a' : slice_get row.0 i ≡ Some r = subst (λ (z : List ℕ). slice_get z i ≡ Some r) (got rows n row.0 [] row.1) a in
      let k = place_named found row.0 (nexts_within sub above bound x) i r (d.names n x row.0 f row.1) a' in
      let at : 0 + i ≡ i = omega arith in
      (fg.yes n x f (dist.steps.lie n e h), subst (λ (z : ℕ). LeadsBy sub above bound x z y) (sym at) (k.1 ∙ sym k.2 ∙ fy)));
  named = λ n place x y f s. (
      let row = row_of sub above bound found rows d n x f in
      let k = spot_named found row.0 (nexts_within sub above bound x) place y (d.names n x row.0 f row.1) s.1 in
      (place, k.0, omega arith, subst (λ (z : List ℕ). slice_get z place ≡ Some k.0) (sym (got rows n row.0 [] row.1)) k.1, k.2));
  ends = λ n x f e. dist.steps.begin n (fe.all n x f e);
  only = λ n x f h. fe.yes n x f (dist.steps.only n h);
  on = λ n place i r e x y f s a h. (
      let lt = at_short found n x f in let q = d.all in
      let m = row_to (get_or anys n false) (get_or rows n []) r (in_at (get_or rows n []) i r a) in
      dist.told r n m.0 e (fg.all n x f s.0) (subst (λ (z : List (List ℕ)). Among (get_or z m.0 []) r) (sym (outs_row n (omega arith))) m.1) h);
}
  where
    below : (n e : ℕ) → far_at far n ≡ Some e → n < length rows
    below n e h = let k = flag_within inside n (dist.steps.lie n e h) in let s = fg.size in let a = d.all in omega arith

    outs_row : (n : ℕ) → n < length rows → get_or g.outs n [] ≡ moves_of (get_or anys n false) (get_or rows n [])
    outs_row n lt = b.done n lt

-- the graph has few edges

results_few : (any : Bool) (row : List ℕ) → sum_by (λ (results : List ℕ). length results) (moves_of any row) ≤ length row
results_few true [] = omega arith
results_few true (n ∷ row) =
    let a = sum_by-cons (λ (results : List ℕ). length results) (n ∷ []) (moves_of true row) in let b = results_few true row in omega arith
results_few false row = let a = sum_by-cons (λ (results : List ℕ). length results) row [] in omega arith

pub edges_within : (rows : List (List ℕ)) (anys : List Bool) (g : Graph_data) → IsBuilt anys rows (length rows) g → ((n : ℕ) → length (get_or rows n []) ≤ 65537) → edges_in g.outs ≤ 65537 * length g.outs
edges_within rows anys g b short = edges_few g.outs few
  where
    few : (n : ℕ) → sum_by (λ (results : List ℕ). length results) (get_or g.outs n []) ≤ 65537
    few n = elim (cases_lt n (length rows)) [
      | inl lt ↦ (let k = results_few (get_or anys n false) (get_or rows n []) in let s = short n in rw (b.done n lt) (omega arith))
      | inr le ↦ rw (b.free n le) (omega arith)
    ]

-- the graph of the candidates has few edges
pub candidate_edges : (sub above : Machine_data) (bound : ℕ) (found : Candidates) (g : Graph_data) (gone : List Bool) → AreFoundCandidates sub above bound found → IsLostGraph sub above bound found g gone
    → length found.table.spots ≤ 65536 → edges_in g.outs < 18446744073709551616
candidate_edges sub above bound found g gone f l few =
    let e = edges_within found.table.rows found.anys.items g l.built (λ n. let k : length (get_or found.table.rows n []) ≤ 65536 = f.noted.short n in omega arith) in
    let s = l.built.size in let d = f.discovery.all in omega arith

-- steps that go nearer

-- such steps make the first walk to a cut
pub nearest_cut : (sub above : Machine_data) (bound greater : ℕ) (found : List Spot) (rows : List (List ℕ)) (far : List (Option ℕ))
    → AreCharted (HelpedStep sub above bound greater) (IsHelpedCut sub above bound greater) found (λ n. 0) rows far → slice_get found 0 ≡ Some (start_spot sub above)
    → (steps : List WalkStep_data) (last : ℕ) → GoNearer found (λ n. 0) rows far 0 steps last → IsFirstCutWalk sub above bound greater (start_spot sub above) steps
nearest_cut sub above bound greater found rows far c f steps last g =
    let k = nearest (nexts_within sub above bound) (HelpedStep sub above bound greater) (IsHelpedCut sub above bound greater) (helped_by sub above bound greater) found (λ n. 0) rows far c steps 0 last
    (start_spot sub above) f g in
    first_same (IsWay (HelpedStep sub above bound greater) (IsHelpedCut sub above bound greater) (start_spot sub above)) (IsCutWalk sub above bound greater (start_spot sub above))
    (to_cut_walk sub above bound greater (start_spot sub above)) (from_cut_walk sub above bound greater (start_spot sub above)) steps k.first

-- the start has a distance
pub start_far : (sub above : Machine_data) (bound greater : ℕ) (found : List Spot) (rows : List (List ℕ)) (far : List (Option ℕ))
    → AreCharted (HelpedStep sub above bound greater) (IsHelpedCut sub above bound greater) found (λ n. 0) rows far → slice_get found 0 ≡ Some (start_spot sub above) → (steps : List WalkStep_data)
    → IsFirstCutWalk sub above bound greater (start_spot sub above) steps → (d : ℕ) × (far_at far 0 ≡ Some d)
start_far sub above bound greater found rows far c f steps w =
    let k = way_far (HelpedStep sub above bound greater) (IsHelpedCut sub above bound greater) found (λ n. 0) rows far c steps 0 (start_spot sub above) f
    (from_cut_walk sub above bound greater (start_spot sub above) steps w.is) in (k.0, k.1)

-- why it ends

ends_by : (sub above : Machine_data) (bound : ℕ) (p : Spot) (s t : State) → IsProper above → IsCandidate sub above bound p → IsDeadEnd sub above bound p → slice_get sub.states p.state ≡ Some s
    → slice_get above.states p.above ≡ Some t → (o : Option Obstacle) → obstacle_at p.pending s (Some t) ≡ o → EndsBy sub above bound p (ending_by o)
ends_by sub above bound p s t wa c dead es et o e = elim (moves_or_obstacle sub above p s t wa es et o e) [
  | inr k ↦ rw k.1 k.2
  | inl k ↦ rw k.0 (elim (bool_cases (turn_within sub above bound p).cut) [
    | inl y ↦ to_cut sub above bound p (candidate_short sub above bound p c) y
    | inr f ↦ absurd (dead k.1.results (uncut_within sub above bound p k.1.makes k.1.results f k.1.move))
  ])
]

pub ends_at : (sub above : Machine_data) (bound : ℕ) (p : Spot) → IsProper sub → IsProper above → IsCandidate sub above bound p → IsDeadEnd sub above bound p
    → EndsBy sub above bound p (ending_at sub above p)
ends_at sub above bound p ws wa c dead =
    let w = stays_within sub above bound ws wa p c in
    let s = at_within sub.states p.state w.state in
    let t = at_within above.states p.above w.present in
    let k = ends_by sub above bound p s.0 t.0 wa c dead s.1 t.1 (obstacle_at p.pending s.0 (Some t.0)) refl in
    rw (s.1, t.1) k

-- the spot at the end of a walk along which the start dies
pub record EndSpot (sub above : Machine_data) (bound : ℕ) (steps : List WalkStep_data) (p : Spot) : Type 0 where
  pub same : p ≡ end_of (start_spot sub above) steps
  pub candidate : IsCandidate sub above bound p
  pub dead : IsDeadEnd sub above bound p

pub end_spot : (sub above : Machine_data) (bound : ℕ) (found : List Spot) (steps : List WalkStep_data) (n : ℕ) (p : Spot) → IsDyingWay sub above bound found steps n → slice_get found n ≡ Some p
    → EndSpot sub above bound steps p
end_spot sub above bound found steps n p w e =
    let same : p ≡ end_of (start_spot sub above) steps = same_Some p (end_of (start_spot sub above) steps) (sym e ∙ w.stands) in
    record {
      same = same;
      candidate = subst (λ (z : Spot). IsCandidate sub above bound z) (sym same)
          (end_candidate sub above bound (start_spot sub above) steps Start (dying_leads sub above bound (start_spot sub above) steps w.walk));
      dead = subst (λ (z : Spot). IsDeadEnd sub above bound z) (sym same) (dying_dead sub above bound (start_spot sub above) steps w.walk);
    }

pub whole_explains : (sub above : Machine_data) (bound : ℕ) (found : List Spot) (steps : List WalkStep_data) (n : ℕ) (p : Spot) (e : Ending) → IsProper sub → IsProper above
    → IsDyingWay sub above bound found steps n → slice_get found n ≡ Some p → e ≡ ending_at sub above p → IsExplanation sub above bound (record { steps = steps; ending = e })
whole_explains sub above bound found steps n p e ws wa w g ee =
    let k = end_spot sub above bound found steps n p w g in
    let by : EndsBy sub above bound p e = subst (λ (z : Ending). EndsBy sub above bound p z) (sym ee) (ends_at sub above bound p ws wa k.candidate k.dead) in
    record { walk = w.walk; ending = subst (λ (z : Spot). EndsBy sub above bound z e) k.same by }

-- what the walk reads

pub at_place : (xs : List ℕ) (i : ℕ) → i < length xs → slice_get xs i ≡ Some (get_or xs i 0)
at_place [] i lt = let bad : ⊥ = omega arith in absurd bad
at_place (x ∷ xs) zero lt = refl
at_place (x ∷ xs) (suc i) lt = at_place xs i (omega arith)

pub few_places : (rows : List (List ℕ)) (n place most : ℕ) (row : List ℕ) → slice_get rows n ≡ Some row → length (get_or rows n []) ≤ most → place < length row → place < most
few_places rows n place most row e le lt =
    let k : length (get_or rows n []) ≡ length row = ap (λ (z : List ℕ). length z) (got rows n row [] e) in omega arith

-- the chart of what the code has in hand

pub ends_within : (sub above : Machine_data) (bound greater : ℕ) (spots : List Spot) (inside inside' ends ends' : List Bool)
    → AreFlagged (IsHelped sub above bound greater) spots inside → AreFlagged (IsHelpedCut sub above bound greater) spots ends → inside' ≡ inside → ends' ≡ ends
    → (n : ℕ) → flag_at ends' n ≡ true → flag_at inside' n ≡ true
ends_within sub above bound greater spots inside inside' ends ends' fg fe eg ee n h =
    let h' : flag_at ends n ≡ true = subst (λ (z : List Bool). flag_at z n ≡ true) ee h in
    let x = at_within spots n (let k = flag_within ends n h' in let s = fe.size in omega arith) in
    let k = fe.yes n x.0 x.1 h' in
    subst (λ (z : List Bool). flag_at z n ≡ true) (sym eg) (fg.all n x.0 x.1 k.0)

pub chart_of : (sub above : Machine_data) (bound greater : ℕ) (found : Candidates) (g : Graph_data) (gone inside inside' ends ends' : List Bool) (far far' : List (Option ℕ))
    → AreFoundCandidates sub above bound found → IsLostGraph sub above bound found g gone → AreFlagged (IsHelped sub above bound greater) found.table.spots inside
    → AreFlagged (IsHelpedCut sub above bound greater) found.table.spots ends → inside' ≡ inside → ends' ≡ ends → far' ≡ far
    → AreDistances g.outs inside' ends' far → AreCharted (HelpedStep sub above bound greater) (IsHelpedCut sub above bound greater) found.table.spots (λ n. 0) found.table.rows far'
chart_of sub above bound greater found g gone inside inside' ends ends' far far' f l fg fe eg ee ef d =
    let d1 : AreDistances g.outs inside ends' far = subst (λ (z : List Bool). AreDistances g.outs z ends' far) eg d in
    let d2 : AreDistances g.outs inside ends far = subst (λ (z : List Bool). AreDistances g.outs inside z far) ee d1 in
    let d3 : AreDistances g.outs inside ends far' = subst (λ (z : List (Option ℕ)). AreDistances g.outs inside ends z) (sym ef) d2 in
    charted sub above bound greater (IsHelpedCut sub above bound greater) found.table.spots found.table.rows found.anys.items inside ends g far' f.discovery l.built fg fe d3
