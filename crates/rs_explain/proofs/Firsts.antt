-- Walks to a cut, through spots that a greater bound helps: where there is one there is a first one, and one only.
use Rattle.std.proofs.Common.{◌≡◌, ◌⊎◌, inl, inr, ℕ, ◌≤◌, zero, suc, subst, Bool, true, false, List, [], ◌∷◌, length, map, slice_get, Option, Some, None, refl, sym, ◌∙◌, arith, if◌then◌else◌}
use Rattle.std.proofs.lemmas.Bool.{false≢true}
use Rattle.std.proofs.lemmas.Option.{none-some, same_Some}
use Rattle.rs_model.specs.Data.{Machine_data}
use Rattle.rs_derive.proofs.Mapped.{map_at}
use Rattle.rs_derive.specs.Due.{Due, due}
use Rattle.rs_derive.specs.Moves.{Spot}
use Rattle.rs_graph.proofs.Growth.{in_at}
use Rattle.rs_graph.specs.Graphs.{moves_of}
use Rattle.rs_graph.specs.Lists.{Among}
use Rattle.rs_search.proofs.Choices.{bool_cases, from_cut, from_move, moves_at, to_cut, to_move}
use Rattle.rs_search.proofs.Uncut.{candidate_up}
use Rattle.rs_search.proofs.Verdicts.{candidate_short}
use Rattle.rs_search.specs.Candidates.{IsCandidate, MeetsACut, MoveWithin, Onward}
use Rattle.rs_search.specs.Survives.{Survives}
use Rattle.rs_search.specs.Turns.{Turn_data, no_turn, nexts_within, owes_more, turn_of, turn_within}
use Rattle.rs_explain.proofs.Ways.{AreTold, GoBy, IsWay, first_same, first_walk, one_first, seek}
use Rattle.rs_explain.specs.Helping.{IsHelpedCut}
use Rattle.rs_explain.specs.Walks.{AreHelped, Dies, IsCutWalk, IsDeadEnd, IsFirstCutWalk, IsHelped, IsWalk, LeadsBy, WalkStep_data, end_of}

-- moves and steps

-- a step goes by a move
pub leads_move : (sub above : Machine_data) (bound : ℕ) (p : Spot) (place : ℕ) (q : Spot) → LeadsBy sub above bound p place q
    → (rs : List Spot) × MoveWithin sub above bound p rs × Among rs q
leads_move sub above bound p place q e = go (turn_within sub above bound p).any (λ rs h. to_move sub above bound p rs h)
  where
    spots : List Spot
    spots = nexts_within sub above bound p

    go : (any : Bool) → ((rs : List Spot) → Among (moves_of any spots) rs → MoveWithin sub above bound p rs) → (rs : List Spot) × MoveWithin sub above bound p rs × Among rs q
    go true is = (q ∷ [], is (q ∷ []) (in_at (map (λ (x : Spot). x ∷ []) spots) place (q ∷ []) (map_at (λ (x : Spot). x ∷ []) spots place q e)), inl refl)
    go false is = (spots, is spots (inl refl), in_at spots place q e)

-- a spot has a move within the bound, or none
pub dead_or_not : (sub above : Machine_data) (bound : ℕ) (p : Spot) → IsDeadEnd sub above bound p ⊎ (IsDeadEnd sub above bound p → ⊥)
dead_or_not sub above bound p = go (moves_at sub above bound p) (λ rs m. from_move sub above bound p rs m) (λ rs h. to_move sub above bound p rs h)
  where
    go : (ms : List (List Spot)) → ((rs : List Spot) → MoveWithin sub above bound p rs → Among ms rs) → ((rs : List Spot) → Among ms rs → MoveWithin sub above bound p rs)
        → IsDeadEnd sub above bound p ⊎ (IsDeadEnd sub above bound p → ⊥)
    go [] from to = inl (λ rs m. from rs m)
    go (m ∷ ms) from to = inr (λ e. e m (to m (inl refl)))

pub no_moves_dead : (sub above : Machine_data) (bound : ℕ) (p : Spot) → length (moves_at sub above bound p) ≡ 0 → IsDeadEnd sub above bound p
no_moves_dead sub above bound p e rs m = go (moves_at sub above bound p) e (from_move sub above bound p rs m)
  where
    go : (ms : List (List Spot)) → length ms ≡ 0 → Among ms rs → ⊥
    go [] e h = h
    go (m ∷ ms) e h = let bad : ⊥ = omega arith in bad

pub dead_has_no_moves : (sub above : Machine_data) (bound : ℕ) (p : Spot) → IsDeadEnd sub above bound p → length (moves_at sub above bound p) ≡ 0
dead_has_no_moves sub above bound p e = go (moves_at sub above bound p) (λ rs h. to_move sub above bound p rs h)
  where
    go : (ms : List (List Spot)) → ((rs : List Spot) → Among ms rs → MoveWithin sub above bound p rs) → length ms ≡ 0
    go [] to = refl
    go (m ∷ ms) to = absurd (e m (to m (inl refl)))

pub candidate_on : (sub above : Machine_data) (bound : ℕ) (p : Spot) (place : ℕ) (q : Spot) → IsCandidate sub above bound p → LeadsBy sub above bound p place q → IsCandidate sub above bound q
candidate_on sub above bound p place q c e = let m = leads_move sub above bound p place q e in Onward p m.0 q c m.1 m.2

pub end_candidate : (sub above : Machine_data) (bound : ℕ) (p : Spot) (steps : List WalkStep_data) → IsCandidate sub above bound p → IsWalk sub above bound p steps
    → IsCandidate sub above bound (end_of p steps)
end_candidate sub above bound p [] c w = c
end_candidate sub above bound p (s ∷ later) c w = end_candidate sub above bound s.spot later (candidate_on sub above bound p s.place s.spot c w.0) w.1

-- a spot that meets a cut has no move within the bound

cut_none : (b : Bool) (u : Turn_data) (rs : List Spot) → u.cut ≡ false → (if b then no_turn true else u).cut ≡ true
    → Among (moves_of (if b then no_turn true else u).any (if b then no_turn true else u).spots) rs → ⊥
cut_none true u rs f e h = h
cut_none false u rs f e h = false≢true (sym f ∙ e)

uncut_of : (o : Option Due) → (turn_of o).cut ≡ false
uncut_of None = refl
uncut_of (Some d) = refl

pub cut_dead : (sub above : Machine_data) (bound : ℕ) (p : Spot) → MeetsACut sub above bound p → IsDeadEnd sub above bound p
cut_dead sub above bound p c rs m =
    cut_none (owes_more bound (turn_of (due sub above p)).spots) (turn_of (due sub above p)) rs (uncut_of (due sub above p)) (from_cut sub above bound p c) (from_move sub above bound p rs m)

-- a candidate meets a cut, or doesn't
pub cut_or_not : (sub above : Machine_data) (bound : ℕ) (p : Spot) → IsCandidate sub above bound p → MeetsACut sub above bound p ⊎ (MeetsACut sub above bound p → ⊥)
cut_or_not sub above bound p c = elim (bool_cases (turn_within sub above bound p).cut) [
  | inl y ↦ inl (to_cut sub above bound p (candidate_short sub above bound p c) y)
  | inr f ↦ inr (λ k. false≢true (sym f ∙ from_cut sub above bound p k))
]

-- walks to a cut

-- a step from a spot that the greater bound helps
abbrev pub HelpedStep : Machine_data → Machine_data → ℕ → ℕ → Spot → ℕ → Spot → Type 0
HelpedStep sub above bound greater p place q = IsHelped sub above bound greater p × LeadsBy sub above bound p place q

pub helped_by : (sub above : Machine_data) (bound greater : ℕ) (p : Spot) (place : ℕ) (q : Spot) → HelpedStep sub above bound greater p place q → slice_get (nexts_within sub above bound p) place ≡ Some q
helped_by sub above bound greater p place q g = g.1

helped_go : (sub above : Machine_data) (bound greater : ℕ) (p : Spot) (steps : List WalkStep_data) → IsWalk sub above bound p steps → AreHelped sub above bound greater p steps
    → GoBy (HelpedStep sub above bound greater) p steps
helped_go sub above bound greater p [] w h = tt
helped_go sub above bound greater p (s ∷ later) w h = ((h.0, w.0), helped_go sub above bound greater s.spot later w.1 h.1)

-- each spot of such a walk is helped, also the last
pub last_helped : (sub above : Machine_data) (bound greater : ℕ) (p : Spot) (steps : List WalkStep_data) → AreHelped sub above bound greater p steps → IsHelped sub above bound greater (end_of p steps)
last_helped sub above bound greater p [] h = h
last_helped sub above bound greater p (s ∷ later) h = last_helped sub above bound greater s.spot later h.1

pub from_cut_walk : (sub above : Machine_data) (bound greater : ℕ) (p : Spot) (steps : List WalkStep_data) → IsCutWalk sub above bound greater p steps
    → IsWay (HelpedStep sub above bound greater) (IsHelpedCut sub above bound greater) p steps
from_cut_walk sub above bound greater p steps l = record { go = helped_go sub above bound greater p steps l.walk l.helped; ends = (last_helped sub above bound greater p steps l.helped, l.ends) }

go_walk : (sub above : Machine_data) (bound greater : ℕ) (p : Spot) (steps : List WalkStep_data) → GoBy (HelpedStep sub above bound greater) p steps → IsWalk sub above bound p steps
go_walk sub above bound greater p [] g = tt
go_walk sub above bound greater p (s ∷ later) g = (g.0.1, go_walk sub above bound greater s.spot later g.1)

go_helped : (sub above : Machine_data) (bound greater : ℕ) (p : Spot) (steps : List WalkStep_data) → GoBy (HelpedStep sub above bound greater) p steps → IsHelped sub above bound greater (end_of p steps)
    → AreHelped sub above bound greater p steps
go_helped sub above bound greater p [] g h = h
go_helped sub above bound greater p (s ∷ later) g h = (g.0.0, go_helped sub above bound greater s.spot later g.1 h)

pub to_cut_walk : (sub above : Machine_data) (bound greater : ℕ) (p : Spot) (steps : List WalkStep_data) → IsWay (HelpedStep sub above bound greater) (IsHelpedCut sub above bound greater) p steps
    → IsCutWalk sub above bound greater p steps
to_cut_walk sub above bound greater p steps w = record { walk = go_walk sub above bound greater p steps w.go; helped = go_helped sub above bound greater p steps w.go w.ends.0; ends = w.ends.1 }

-- first walks

abbrev pub Decides : Machine_data → Machine_data → ℕ → Type 0
Decides sub above bound = (p : Spot) → IsCandidate sub above bound p → Survives sub above bound p ⊎ Dies sub above bound p

-- the greater bound helps a candidate, or doesn't
helped_or_not : (sub above : Machine_data) (bound greater : ℕ) → bound ≤ greater → Decides sub above bound → Decides sub above greater → (p : Spot) → IsCandidate sub above bound p
    → IsHelped sub above bound greater p ⊎ (IsHelped sub above bound greater p → ⊥)
helped_or_not sub above bound greater le here wide p c = elim (here p c) [
  | inl alive ↦ inr (λ h. h.dies alive)
  | inr d ↦ elim (wide p (candidate_up sub above bound greater le p c)) [
    | inl alive ↦ inl (record { dies = d; survives = alive })
    | inr gone ↦ inr (λ h. gone h.survives)
  ]
]

helped_told : (sub above : Machine_data) (bound greater : ℕ) → bound ≤ greater → Decides sub above bound → Decides sub above greater
    → AreTold (nexts_within sub above bound) (IsCandidate sub above bound) (HelpedStep sub above bound greater) (IsHelpedCut sub above bound greater)
helped_told sub above bound greater le here wide = record {
  by = helped_by sub above bound greater;
  good = λ p place q c g. candidate_on sub above bound p place q c g.1;
  tells = λ p place q c e. elim (helped_or_not sub above bound greater le here wide p c) [ inl h ↦ inl (h, e) | inr n ↦ inr (λ g. n g.0) ];
  ended = λ p c. elim (helped_or_not sub above bound greater le here wide p c) [
    | inl h ↦ elim (cut_or_not sub above bound p c) [ inl k ↦ inl (h, k) | inr n ↦ inr (λ g. n g.1) ]
    | inr n ↦ inr (λ g. n g.0)
  ];
}

pub first_cut_walk : (sub above : Machine_data) (bound greater : ℕ) → bound ≤ greater → Decides sub above bound → Decides sub above greater
    → (p : Spot) → IsCandidate sub above bound p → (steps : List WalkStep_data) → IsCutWalk sub above bound greater p steps
    → (first : List WalkStep_data) × IsFirstCutWalk sub above bound greater p first
first_cut_walk sub above bound greater le here wide p c steps l =
    let told = helped_told sub above bound greater le here wide in
    let f = first_walk (IsWay (HelpedStep sub above bound greater) (IsHelpedCut sub above bound greater) p)
    (λ count. seek (nexts_within sub above bound) (IsCandidate sub above bound) (HelpedStep sub above bound greater) (IsHelpedCut sub above bound greater) told count p c)
    steps (from_cut_walk sub above bound greater p steps l) in (
      f.0,
      first_same (IsWay (HelpedStep sub above bound greater) (IsHelpedCut sub above bound greater) p) (IsCutWalk sub above bound greater p)
          (to_cut_walk sub above bound greater p) (from_cut_walk sub above bound greater p) f.0 f.1,
    )

-- each step leads to a spot that is helped
pub steps_helped : (sub above : Machine_data) (bound greater : ℕ) (p : Spot) (steps : List WalkStep_data) → AreHelped sub above bound greater p steps → (i : ℕ) (s : WalkStep_data)
    → slice_get steps i ≡ Some s → IsHelped sub above bound greater s.spot
steps_helped sub above bound greater p [] h i s e = absurd (none-some s e)
steps_helped sub above bound greater p (t ∷ later) h zero s e = subst (λ (z : WalkStep_data). IsHelped sub above bound greater z.spot) (same_Some t s e) (first_is t.spot later h.1)
  where
    first_is : (q : Spot) (steps : List WalkStep_data) → AreHelped sub above bound greater q steps → IsHelped sub above bound greater q
    first_is q [] k = k
    first_is q (u ∷ more) k = k.0
steps_helped sub above bound greater p (t ∷ later) h (suc i) s e = steps_helped sub above bound greater t.spot later h.1 i s e

-- there is one at most
pub one_cut_walk : (sub above : Machine_data) (bound greater : ℕ) (p : Spot) (a b : List WalkStep_data) → IsFirstCutWalk sub above bound greater p a → IsFirstCutWalk sub above bound greater p b → a ≡ b
one_cut_walk sub above bound greater p a b =
    one_first (nexts_within sub above bound) (HelpedStep sub above bound greater) (helped_by sub above bound greater) p (IsCutWalk sub above bound greater p)
    (λ w l. (from_cut_walk sub above bound greater p w l).go) a b
