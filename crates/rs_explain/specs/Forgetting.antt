-- Public: how the canonical derivation forgets an act that is owed: a way leads round, on which it is never made.
use Rattle.std.specs.Prelude.{◌≡◌, ◌≢◌, ℕ, List, [], ◌∷◌, map, slice_get, Option, Some}
use Rattle.rs_model.specs.Data.{Machine_data}
use Rattle.rs_derive.specs.Data.{DNode_data, Derivation_data}
use Rattle.rs_derive.specs.Derivations.{KeepsItsHead, spot_of}
use Rattle.rs_derive.specs.Moves.{Spot, HasMove}
use Rattle.rs_graph.specs.Lists.{Among}
use Rattle.rs_search.specs.Canonical.{HasCanonicalNodes}
use Rattle.rs_search.specs.Survives.{IsChosen}
use Rattle.rs_explain.specs.Walks.{IsFirst, LeadsBy, WalkStep_data, end_of}

-- q is a result of the move that the canonical derivation makes at p, and this move doesn't make the oldest act that is owed
pub record KeepsOldest (sub above : Machine_data) (bound : ℕ) (p q : Spot) : Type 0 where
  pub results : List Spot
  pub chosen : IsChosen sub above bound p results
  pub among : Among results q
  pub makes : Option ℕ
  pub move : HasMove sub above p makes results
  pub keeps : KeepsItsHead p.pending makes

-- a step by its place to such a result
pub record IsKeepingStep (sub above : Machine_data) (bound : ℕ) (p : Spot) (place : ℕ) (q : Spot) : Type 0 where
  pub leads : LeadsBy sub above bound p place q
  pub keeps : KeepsOldest sub above bound p q

-- each step is such a step
abbrev pub IsKeepingWalk : Machine_data → Machine_data → ℕ → Spot → List WalkStep_data → Type 0
IsKeepingWalk sub above bound p [] = Unit {0}
IsKeepingWalk sub above bound p (s ∷ later) = IsKeepingStep sub above bound p s.place s.spot × IsKeepingWalk sub above bound s.spot later

-- some such steps lead from p back to it
pub record IsRound (sub above : Machine_data) (bound : ℕ) (p : Spot) (steps : List WalkStep_data) : Type 0 where
  pub some : steps ≢ []
  pub walk : IsKeepingWalk sub above bound p steps
  pub back : end_of p steps ≡ p

-- a spot, and a way round from it
pub record Forgetting_data : Type 0 where
  pub spot : Spot
  pub steps : List WalkStep_data

-- the spot of that node of the canonical derivation, and the first way round from it
pub record IsForgetting (sub above : Machine_data) (bound node : ℕ) (f : Forgetting_data) : Type 0 where
  pub derivation : Derivation_data
  pub canonical : HasCanonicalNodes sub above bound derivation
  pub stands : slice_get (map (λ (n : DNode_data). spot_of n) derivation.nodes) node ≡ Some f.spot
  pub first : IsFirst (IsRound sub above bound f.spot) f.steps
