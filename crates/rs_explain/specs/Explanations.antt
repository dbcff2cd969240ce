-- Public: why the start doesn't survive.
use Rattle.std.specs.Prelude.{ℕ, ◌≤◌, List}
use Rattle.rs_model.specs.Data.{Machine_data}
use Rattle.rs_derive.specs.Moves.{Spot}
use Rattle.rs_model.specs.declared.limits.TheConstants.{MOST_CANDIDATES}
use Rattle.rs_search.specs.Candidates.{AreMoreThan, MeetsACut, start_spot}
use Rattle.rs_search.specs.Survives.{Survives}
use Rattle.rs_explain.specs.Obstacles.{IsObstacle}
use Rattle.rs_explain.specs.Walks.{IsDyingWalk, WalkStep_data, end_of}
use Rattle.rs_explain.specs.declared.explaining.Ending.{Ending}
use Rattle.rs_explain.specs.declared.explaining.Ending.TheVariants.{Blocked, Cut}

-- a walk from the start, and why it ends
pub record Explanation_data : Type 0 where
  pub steps : List WalkStep_data
  pub ending : Ending

-- an obstacle stands in the way of each move, or a move would owe more than the bound
abbrev pub EndsBy : Machine_data → Machine_data → ℕ → Spot → Ending → Type 0
EndsBy sub above bound p (Blocked o) = IsObstacle sub above p o
EndsBy sub above bound p Cut = MeetsACut sub above bound p

-- the walk along which the start dies, and why the spot at its end has no move
pub record IsExplanation (sub above : Machine_data) (bound : ℕ) (e : Explanation_data) : Type 0 where
  pub walk : IsDyingWalk sub above bound (start_spot sub above) e.steps
  pub ending : EndsBy sub above bound (end_of (start_spot sub above) e.steps) e.ending

-- the start survives within this bound, which is no less and within which there aren't too many candidates
pub record AGreaterBoundHelps (sub above : Machine_data) (bound greater : ℕ) : Type 0 where
  pub more : bound ≤ greater
  pub bounded : AreMoreThan sub above greater MOST_CANDIDATES → ⊥
  pub survives : Survives sub above greater (start_spot sub above)
