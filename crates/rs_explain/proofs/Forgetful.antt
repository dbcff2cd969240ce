-- Ways round: where the canonical derivation forgets there is a first one, and one only.
use Rattle.std.proofs.Common.{◌≡◌, ◌≢◌, ◌⊎◌, inl, inr, ℕ, suc, Bool, true, false, List, [], ◌∷◌, length, map, slice_get, Some, refl, sym, ap, subst, ◌∙◌, arith}
use Rattle.std.proofs.lemmas.Bool.{false≢true}
use Rattle.std.proofs.lemmas.Option.{same_Some}
use Rattle.rs_model.specs.Data.{Machine_data}
use Rattle.rs_derive.proofs.Mapped.{map_at, map_of}
use Rattle.rs_derive.specs.Data.{DNode_data, Derivation_data}
use Rattle.rs_derive.specs.Derivations.{KeepsItsHead, spot_of}
use Rattle.rs_derive.specs.Moves.{HasMove, Spot}
use Rattle.rs_derive.specs.Targets.{same_spot}
use Rattle.rs_graph.proofs.Growth.{at_in}
use Rattle.rs_graph.specs.Graphs.{moves_of}
use Rattle.rs_graph.specs.Lists.{Among, ArePlacesOf}
use Rattle.rs_graph.specs.Walks.{Walk, Here, Further}
use Rattle.rs_search.proofs.Accepted.{named_result}
use Rattle.rs_search.proofs.Assembled.{is_kept, keeping_is}
use Rattle.rs_search.proofs.Choices.{bool_cases, from_move}
use Rattle.rs_search.proofs.Determined.{one_canonical, one_choice}
use Rattle.rs_search.proofs.Discovering.{Tells, among_or_not}
use Rattle.rs_search.proofs.Same.{not_spot, spot_is}
use Rattle.rs_search.specs.Candidates.{MoveWithin}
use Rattle.rs_search.specs.Canonical.{HasCanonicalNodes, IsForgets, KeepsHead}
use Rattle.rs_search.specs.Survives.{IsChosen}
use Rattle.rs_search.specs.Turns.{is_keeping, nexts_within, turn_within}
use Rattle.rs_explain.proofs.Ways.{AreTold, GoBy, GoOn, IsWay, first_walk, one_first, seek_some, step}
use Rattle.rs_explain.specs.Forgetting.{Forgetting_data, IsForgetting, IsKeepingStep, IsKeepingWalk, IsRound, KeepsOldest}
use Rattle.rs_explain.specs.Walks.{IsFirst, LeadsBy, WalkStep_data}

same_spots : Tells Spot
same_spots p q = told (same_spot p q) refl
  where
    told : (b : Bool) → same_spot p q ≡ b → (p ≡ q) ⊎ (p ≡ q → ⊥)
    told true e = inl (spot_is p q e)
    told false e = inr (not_spot p q e)

abbrev spots_of : Derivation_data → List Spot
spots_of d = map (λ (n : DNode_data). spot_of n) d.nodes

-- rounds as ways

abbrev pub Is : Spot → Spot → Type 0
Is p q = q ≡ p

keep_go : (sub above : Machine_data) (bound : ℕ) (p : Spot) (steps : List WalkStep_data) → IsKeepingWalk sub above bound p steps → GoBy (IsKeepingStep sub above bound) p steps
keep_go sub above bound p [] w = tt
keep_go sub above bound p (s ∷ later) w = (w.0, keep_go sub above bound s.spot later w.1)

go_keep : (sub above : Machine_data) (bound : ℕ) (p : Spot) (steps : List WalkStep_data) → GoBy (IsKeepingStep sub above bound) p steps → IsKeepingWalk sub above bound p steps
go_keep sub above bound p [] w = tt
go_keep sub above bound p (s ∷ later) w = (w.0, go_keep sub above bound s.spot later w.1)

not_none : (s : WalkStep_data) (later : List WalkStep_data) → (s ∷ later) ≢ []
not_none s later e = let k : suc (length later) ≡ 0 = ap (λ (z : List WalkStep_data). length z) e in let bad : ⊥ = omega arith in bad

pub round_on : (sub above : Machine_data) (bound : ℕ) (p : Spot) → GoOn (IsKeepingStep sub above bound) (Is p) p (IsRound sub above bound p)
round_on sub above bound p = record {
  on = λ place q later g w. record { some = not_none (step place q) later; walk = (g, go_keep sub above bound q later w.go); back = w.ends };
  from = λ s later r. (r.walk.0, record { go = keep_go sub above bound s.spot later r.walk.1; ends = r.back });
}

pub keep_by : (sub above : Machine_data) (bound : ℕ) (p : Spot) (place : ℕ) (q : Spot) → IsKeepingStep sub above bound p place q → slice_get (nexts_within sub above bound p) place ≡ Some q
keep_by sub above bound p place q g = g.leads

-- one way round at most

round_go : (sub above : Machine_data) (bound : ℕ) (p : Spot) (steps : List WalkStep_data) → IsRound sub above bound p steps → GoBy (IsKeepingStep sub above bound) p steps
round_go sub above bound p steps r = keep_go sub above bound p steps r.walk

same_forgetting : (f g : Forgetting_data) → f.spot ≡ g.spot → f.steps ≡ g.steps → f ≡ g
same_forgetting f g e h = rw (e, h) refl

pub one_forgetting : (sub above : Machine_data) (bound node : ℕ) (f g : Forgetting_data) → IsForgetting sub above bound node f → IsForgetting sub above bound node g → f ≡ g
one_forgetting sub above bound node f g a b =
    let s = one_canonical sub above bound a.derivation b.derivation a.canonical b.canonical in
    let at : f.spot ≡ g.spot = same_Some f.spot g.spot (sym a.stands ∙ ap (λ (z : List Spot). slice_get z node) s.spots' ∙ b.stands) in
    let first : IsFirst (IsRound sub above bound f.spot) g.steps = subst (λ (z : Spot). IsFirst (IsRound sub above bound z) g.steps) (sym at) b.first in
    same_forgetting f g at (one_first (nexts_within sub above bound) (IsKeepingStep sub above bound) (keep_by sub above bound) f.spot (IsRound sub above bound f.spot)
    (round_go sub above bound f.spot) f.steps g.steps a.first first)

-- the edges of the canonical derivation

-- the chosen move of a node
record Choice (sub above : Machine_data) (bound : ℕ) (d : Derivation_data) (i : ℕ) (x : Spot) : Type 0 where
  pub node : DNode_data
  pub stands : slice_get d.nodes i ≡ Some node
  pub spot_is : spot_of node ≡ x
  pub results : List Spot
  pub chosen : IsChosen sub above bound x results
  pub names : ArePlacesOf (spots_of d) node.next results

choice_at : (sub above : Machine_data) (bound : ℕ) (d : Derivation_data) → HasCanonicalNodes sub above bound d → (i : ℕ) (x : Spot) → slice_get (spots_of d) i ≡ Some x → Choice sub above bound d i x
choice_at sub above bound d c i x e =
    let n = map_of (λ (n : DNode_data). spot_of n) d.nodes i x e in
    let f = c.each i n.0 n.1 in
    record { node = n.0; stands = n.1; spot_is = n.2; results = f.results; chosen = subst (λ (z : Spot). IsChosen sub above bound z f.results) n.2 f.chosen; names = f.names }

-- results of a move stand among all to which the spot leads
moves_nexts : (any : Bool) (spots rs : List Spot) (y : Spot) → Among (moves_of any spots) rs → Among rs y → Among spots y
moves_nexts true [] rs y h m = absurd h
moves_nexts true (s ∷ spots) rs y (inl e) m = elim (subst (λ (z : List Spot). Among z y) (sym e) m) [ inl q ↦ inl q | inr k ↦ absurd k ]
moves_nexts true (s ∷ spots) rs y (inr h) m = inr (moves_nexts true spots rs y h m)
moves_nexts false spots rs y (inl e) m = subst (λ (z : List Spot). Among z y) (sym e) m
moves_nexts false spots rs y (inr h) m = absurd h

pub move_leads : (sub above : Machine_data) (bound : ℕ) (x : Spot) (rs : List Spot) (y : Spot) → MoveWithin sub above bound x rs → Among rs y → (place : ℕ) × LeadsBy sub above bound x place y
move_leads sub above bound x rs y m h =
    at_in (nexts_within sub above bound x) y
    (moves_nexts (turn_within sub above bound x).any (turn_within sub above bound x).spots rs y (from_move sub above bound x rs m) h)

-- a result of the chosen move, where its edges keep the oldest act
pub keeps_oldest : (sub above : Machine_data) (bound : ℕ) (x : Spot) (rs : List Spot) (y : Spot) → IsChosen sub above bound x rs → Among rs y → is_keeping sub above bound x ≡ true → KeepsOldest sub above bound x y
keeps_oldest sub above bound x rs y c m k = record {
  results = rs;
  chosen = c;
  among = m;
  makes = c.move.makes;
  move = c.move.move;
  keeps = is_kept sub above bound x rs c.move.makes c.move.move k;
}

pub oldest_kept : (sub above : Machine_data) (bound : ℕ) (x y : Spot) → KeepsOldest sub above bound x y → is_keeping sub above bound x ≡ true
oldest_kept sub above bound x y k = keeping_is sub above bound x k.results k.results k.makes k.chosen.move k.move k.keeps

-- a walk of edges that keep their head, as steps
stepped : (sub above : Machine_data) (bound : ℕ) (d : Derivation_data) → HasCanonicalNodes sub above bound d → (i n k : ℕ) (x z : Spot) → slice_get (spots_of d) i ≡ Some x → slice_get (spots_of d) k ≡ Some z
    → Walk (KeepsHead sub above d.nodes) i n k → (steps : List WalkStep_data) × IsWay (IsKeepingStep sub above bound) (Is z) x steps × (length steps ≡ n)
stepped sub above bound d c i _ _ x z ex ez (Here _) = ([], record { go = tt; ends = same_Some x z (sym ex ∙ ez) }, refl)
stepped sub above bound d c i _ k x z ex ez (Further _ j _ n e w) =
    let h = choice_at sub above bound d c i x ex in
    let same : e.node ≡ h.node = same_Some e.node h.node (sym e.stands ∙ h.stands) in
    let spot_same : spot_of e.node ≡ x = ap (λ (m : DNode_data). spot_of m) same ∙ h.spot_is in
    let move : HasMove sub above x e.makes e.results = subst (λ (p : Spot). HasMove sub above p e.makes e.results) spot_same e.move in
    let keeps : KeepsItsHead x.pending e.makes = subst (λ (p : Spot). KeepsItsHead p.pending e.makes) spot_same e.keeps in
    let kept = keeping_is sub above bound x h.results e.results e.makes h.chosen.move move keeps in
    let y = named_result (spots_of d) h.node.next h.results h.names j (subst (λ (m : DNode_data). Among m.next j) same e.leads) in
    let l = move_leads sub above bound x h.results y.0 h.chosen.move y.2 in
    let on = stepped sub above bound d c j n k y.0 z y.1 ez w in
    let g : IsKeepingStep sub above bound x l.0 y.0 = record { leads = l.1; keeps = keeps_oldest sub above bound x h.results y.0 h.chosen y.2 kept } in
    (step l.0 y.0 ∷ on.0, record { go = (g, on.1.go); ends = on.1.ends }, ap suc on.2)

-- it can be told of each step whether it keeps the oldest act, at the spots of the derivation

abbrev StandsIn : Derivation_data → Spot → Type 0
StandsIn d x = (i : ℕ) × (slice_get (spots_of d) i ≡ Some x)

told : (sub above : Machine_data) (bound : ℕ) (d : Derivation_data) (p : Spot) → HasCanonicalNodes sub above bound d
    → AreTold (nexts_within sub above bound) (StandsIn d) (IsKeepingStep sub above bound) (Is p)
told sub above bound d p c = record {
  by = keep_by sub above bound;
  good = λ x place y s g. (
      let h = choice_at sub above bound d c s.0 x s.1 in
      let m : Among h.results y = subst (λ (z : List Spot). Among z y) (one_choice sub above bound x g.keeps.results h.results g.keeps.chosen h.chosen) g.keeps.among in
      name_of (spots_of d) h.node.next h.results h.names y m);
  tells = λ x place y s e. (
      let h = choice_at sub above bound d c s.0 x s.1 in
      elim (bool_cases (is_keeping sub above bound x)) [
        | inr f ↦ inr (λ g. false≢true (sym f ∙ oldest_kept sub above bound x y g.keeps))
        | inl k ↦ elim (among_or_not same_spots h.results y) [
          | inl m ↦ inl record { leads = e; keeps = keeps_oldest sub above bound x h.results y h.chosen m k }
          | inr out ↦ inr (λ g. out (subst (λ (z : List Spot). Among z y) (one_choice sub above bound x g.keeps.results h.results g.keeps.chosen h.chosen) g.keeps.among))
        ]
      ]);
  ended = λ x s. same_spots x p;
}
  where
    name_of : (found : List Spot) (ns : List ℕ) (rs : List Spot) → ArePlacesOf found ns rs → (y : Spot) → Among rs y → (i : ℕ) × (slice_get found i ≡ Some y)
    name_of found [] [] h y m = absurd m
    name_of found [] (r ∷ rs) h y m = absurd h
    name_of found (n ∷ ns) [] h y m = absurd m
    name_of found (n ∷ ns) (r ∷ rs) h y (inl e) = (n, h.0 ∙ ap Some e)
    name_of found (n ∷ ns) (r ∷ rs) h y (inr m) = name_of found ns rs h.1 y m

-- where the canonical derivation forgets there is a way round
pub record SomeRound (sub above : Machine_data) (bound node : ℕ) (d : Derivation_data) : Type 0 where
  pub spot : Spot
  pub stands : slice_get (map (λ (n : DNode_data). spot_of n) d.nodes) node ≡ Some spot
  pub steps : List WalkStep_data
  pub round : IsRound sub above bound spot steps

round_of : (sub above : Machine_data) (bound : ℕ) (p : Spot) (n : ℕ) (steps : List WalkStep_data) → IsWay (IsKeepingStep sub above bound) (Is p) p steps → length steps ≡ suc n
    → IsRound sub above bound p steps
round_of sub above bound p n steps w e = record {
  some = λ z. (let k : length steps ≡ 0 = ap (λ (l : List WalkStep_data). length l) z in let bad : ⊥ = omega arith in bad);
  walk = go_keep sub above bound p steps w.go;
  back = w.ends;
}

start_of : (sub above : Machine_data) (nodes : List DNode_data) (i n k : ℕ) → Walk (KeepsHead sub above nodes) i (suc n) k → (m : DNode_data) × (slice_get nodes i ≡ Some m)
start_of sub above nodes i _ k (Further _ j _ _ e w) = (e.node, e.stands)

pub some_round : (sub above : Machine_data) (bound node : ℕ) (f : IsForgets sub above bound node) → SomeRound sub above bound node f.derivation
some_round sub above bound node f =
    let m = start_of sub above f.derivation.nodes node f.cycle.cycle.0 node f.cycle.cycle.1 in
    let e : slice_get (spots_of f.derivation) node ≡ Some (spot_of m.0) = map_at (λ (n : DNode_data). spot_of n) f.derivation.nodes node m.0 m.1 in
    let s = stepped sub above bound f.derivation f.canonical node (suc f.cycle.cycle.0) node (spot_of m.0) (spot_of m.0) e e f.cycle.cycle.1 in
    record { spot = spot_of m.0; stands = e; steps = s.0; round = round_of sub above bound (spot_of m.0) f.cycle.cycle.0 s.0 s.1 s.2 }

pub some_forgetting : (sub above : Machine_data) (bound node : ℕ) → IsForgets sub above bound node → (f : Forgetting_data) × IsForgetting sub above bound node f
some_forgetting sub above bound node f =
    let r = some_round sub above bound node f in
    let w = first_walk (IsRound sub above bound r.spot)
    (seek_some (nexts_within sub above bound) (StandsIn f.derivation) (IsKeepingStep sub above bound) (Is r.spot) (told sub above bound f.derivation r.spot f.canonical) r.spot (node, r.stands)
    (IsRound sub above bound r.spot) (round_on sub above bound r.spot) (λ z. z.some refl)) r.steps r.round in
    (record { spot = r.spot; steps = w.0 }, record { derivation = f.derivation; canonical = f.canonical; stands = r.stands; first = w.1 })
