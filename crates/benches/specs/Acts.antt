-- Steps: the roles of the stream, each of which stays in one state.
use Rattle.std.specs.Prelude.{[], ◌∷◌}
use Rattle.rs_model.specs.Data.{Machine_data}
use Rattle.rs_model.specs.declared.values.Sort.TheVariants as sort
use Rattle.rs_rings.specs.Passes.{Rings_data}
use Rattle.rs_session.specs.Stages.{IsOf}
use Rattle.rs_session.specs.declared.stages.Stage.{Stage}
use Rattle.rs_typed.specs.Endpoints.{IsEndpoint, StandsAt}
use Rattle.benches.specs.Sessions.{a, b, machine, puts, takes}

-- A sends numbers for ever
abbrev pub feeder : Machine_data
feeder = machine a (puts b 0 sort.Natural 0 ∷ [])

-- B receives them for ever
abbrev pub drainer : Machine_data
drainer = machine b (takes a 0 sort.Natural 0 ∷ [])

-- the stage is of the session, and plays the machine in its first state
pub record Plays (session : Rings_data) (machine : Machine_data) (stage : Stage) : Type 0 where
  pub of : IsOf session stage
  pub stands : StandsAt machine 0 stage
  pub is : IsEndpoint session machine stage
