-- Public: which stages are handed in at the end of a session, and what is left of them.
use Rattle.std.specs.Prelude.{◌≡◌, ◌≢◌, ℕ, ◌<◌, List, length, Some, slice_get}
use Rattle.rs_rings.specs.Closed.{Closed_data}
use Rattle.rs_rings.specs.Passes.{Rings_data}
use Rattle.rs_rings.specs.Views.{part_of}
use Rattle.rs_session.specs.Data.{Stage_data}
use Rattle.rs_session.specs.Stages.{IsOf}
use Rattle.rs_session.specs.declared.stages.Stage.{Stage}

-- one of the stages is of role r
pub record IsThere (stages : List Stage_data) (r : ℕ) : Type 0 where
  pub place : ℕ
  pub stage : Stage_data
  pub stands : slice_get stages place ≡ Some stage
  pub role : stage.role.0 ≡ r

-- none of the stages is of role r
abbrev pub IsMissing : List Stage_data → ℕ → Type 0
IsMissing stages r = (place : ℕ) (stage : Stage_data) → slice_get stages place ≡ Some stage → stage.role.0 ≢ r

-- there is a stage of each of so many roles
abbrev pub AreAllThere : ℕ → List Stage_data → Type 0
AreAllThere roles stages = (r : ℕ) → r < roles → IsThere stages r

-- r is the least of so many roles that is missing
pub record IsLeastMissing (roles : ℕ) (stages : List Stage_data) (r : ℕ) : Type 0 where
  pub role : r < roles
  pub missing : IsMissing stages r
  pub least : AreAllThere r stages

-- each stage's state allows what is asked, as that it has ended
abbrev pub AreAll : (Stage_data → Type 0) → List Stage_data → Type 0
AreAll is stages = (place : ℕ) (stage : Stage_data) → slice_get stages place ≡ Some stage → is stage

-- all are stages of the session
abbrev pub AreOf : Rings_data → List Stage → Type 0
AreOf session stages = (place : ℕ) (stage : Stage) → slice_get stages place ≡ Some stage → IsOf session stage

-- what is known of each role in the end, its state and its history, is what a stage of it knew that was handed in
abbrev pub KnowsFrom : List Stage_data → Closed_data → Type 0
KnowsFrom stages closed = (r : ℕ) → r < length closed.machines → (from : IsThere stages r) × (part_of closed.last r ≡ from.stage.part)
