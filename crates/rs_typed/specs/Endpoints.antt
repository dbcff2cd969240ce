-- Public: which endpoints stand at which spot, and which are of which session. An endpoint is seen as its stage.
use Rattle.std.specs.Prelude.{◌≡◌, ℕ, List, Some, length, slice_get}
use Rattle.rs_model.specs.Data.{Machine_data}
use Rattle.rs_model.specs.declared.graph.Arm.{Arm}
use Rattle.rs_model.specs.declared.graph.Role.{Role}
use Rattle.rs_model.specs.declared.machines.State.TheVariants.{Done, Puts, Takes}
use Rattle.rs_rings.specs.Passes.{Rings_data}
use Rattle.rs_session.specs.Stages.{sight_of_stage}
use Rattle.rs_session.specs.declared.stages.Stage.{Stage}
use Rattle.rs_session.specs.declared.stages.Stage.TheVariants.{Sending, Receiving, Ended}

-- the kind of the stage is that of state s of the machine
abbrev pub IsOfKind : Machine_data → ℕ → Stage → Type 0
IsOfKind machine s (Sending stage) = (peer : Role) × (arms : List Arm) × (slice_get machine.states s ≡ Some (Puts peer arms))
IsOfKind machine s (Receiving stage) = (peer : Role) × (arms : List Arm) × (slice_get machine.states s ≡ Some (Takes peer arms))
IsOfKind machine s (Ended stage) = slice_get machine.states s ≡ Some Done

-- the stage is of the machine's role, and stands in state s of the machine
pub record StandsAt (machine : Machine_data) (s : ℕ) (stage : Stage) : Type 0 where
  pub role_is : (sight_of_stage stage).role ≡ machine.role
  pub state_is : (sight_of_stage stage).part.state ≡ s
  pub kind : IsOfKind machine s stage

-- the stage is of the session, whose machine of its role is this
pub record IsEndpoint (session : Rings_data) (machine : Machine_data) (stage : Stage) : Type 0 where
  pub table : (sight_of_stage stage).table ≡ session.table
  pub runs : slice_get session.machines (sight_of_stage stage).role.0 ≡ Some machine

-- the stage is of the machine's role and stands in state s, and the session's machine of the role is this
pub record CanEnter (session : Rings_data) (machine : Machine_data) (s : ℕ) (stage : Stage) : Type 0 where
  pub role_is : (sight_of_stage stage).role ≡ machine.role
  pub state_is : (sight_of_stage stage).part.state ≡ s
  pub runs : slice_get session.machines (sight_of_stage stage).role.0 ≡ Some machine

-- the stages are endpoints of all roles of the session, in role order, each with its machine of these
pub record AreEndpoints (session : Rings_data) (machines : List Machine_data) (stages : List Stage) : Type 0 where
  pub a_machine_each : length machines ≡ length session.machines
  pub an_endpoint_each : length stages ≡ length session.machines
  pub each : (r : ℕ) (machine : Machine_data) (stage : Stage) → slice_get machines r ≡ Some machine → slice_get stages r ≡ Some stage → ((sight_of_stage stage).role.0 ≡ r) × IsEndpoint session machine stage
