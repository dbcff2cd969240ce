-- Public: what contracts see of stages, and which stage is of which session. Of a session they see what they see of its rings.
use Rattle.std.specs.Prelude.{◌≡◌, ℕ, ◌<◌, List, length, slice_get, Option, Some}
use Rattle.rs_model.specs.declared.graph.Arm.{Arm}
use Rattle.rs_model.specs.declared.graph.Role.{Role}
use Rattle.rs_model.specs.declared.machines.State.{State}
use Rattle.rs_model.specs.declared.machines.State.TheVariants.{Done, Puts, Takes}
use Rattle.rs_core.specs.Configurations.{state_of}
use Rattle.rs_rings.specs.Acts.{role_of_number}
use Rattle.rs_rings.specs.Passes.{Rings_data}
use Rattle.rs_rings.specs.Views.{first_part}
use Rattle.rs_session.specs.Data.{Stage_data}
use Rattle.rs_session.specs.declared.stages.Stage.{Stage}
use Rattle.rs_session.specs.declared.stages.Stage.TheVariants.{Sending, Receiving, Ended}

-- what is seen of a stage of any kind
abbrev pub sight_of_stage : Stage → Stage_data
sight_of_stage (Sending stage) = stage
sight_of_stage (Receiving stage) = stage
sight_of_stage (Ended stage) = stage

-- the state of its machine at which the stage's role stands
abbrev pub state_of_stage : Rings_data → Stage_data → Option State
state_of_stage session stage = state_of (slice_get session.machines stage.role.0) stage.part.state

-- a stage of the session at a state that sends; at one that receives; at the end of its machine
pub record IsSending (session : Rings_data) (stage : Stage_data) : Type 0 where
  pub table : stage.table ≡ session.table
  pub peer : Role
  pub arms : List Arm
  pub stands : state_of_stage session stage ≡ Some (Puts peer arms)

-- a stage of the session at a state that receives
pub record IsReceiving (session : Rings_data) (stage : Stage_data) : Type 0 where
  pub table : stage.table ≡ session.table
  pub peer : Role
  pub arms : List Arm
  pub stands : state_of_stage session stage ≡ Some (Takes peer arms)

-- a stage of the session at the end of its machine
pub record IsEnded (session : Rings_data) (stage : Stage_data) : Type 0 where
  pub table : stage.table ≡ session.table
  pub stands : state_of_stage session stage ≡ Some Done

-- a stage of the session, whose kind is that of the state at which it stands
abbrev pub IsOf : Rings_data → Stage → Type 0
IsOf session (Sending stage) = IsSending session stage
IsOf session (Receiving stage) = IsReceiving session stage
IsOf session (Ended stage) = IsEnded session stage

-- the role stands at its machine's start, and has done nothing
abbrev pub first_stage : Rings_data → ℕ → Stage_data
first_stage session r = record { table = session.table; role = role_of_number r; part = first_part session.machines r }

-- a stage of the session for each role, in role order, and each is its role's first
pub record AreFirst (session : Rings_data) (stages : List Stage) : Type 0 where
  pub count : length stages ≡ length session.machines
  pub each : (r : ℕ) → r < length session.machines → (stage : Stage) × (slice_get stages r ≡ Some stage) × IsOf session stage × (sight_of_stage stage ≡ first_stage session r)
