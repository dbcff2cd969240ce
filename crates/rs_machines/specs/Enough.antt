-- Public: names that are enough for a machine.
use Rattle.std.specs.Prelude.{◌≡◌, ℕ, ◌<◌, List, length, Some, slice_get}
use Rattle.rs_model.specs.Data.{Machine_data, Names_data}
use Rattle.rs_model.specs.declared.graph.Arm.{Arm}
use Rattle.rs_model.specs.declared.graph.Role.{Role}
use Rattle.rs_bodies.specs.declared.dialects.Mark.{Mark}
use Rattle.rs_machines.specs.Machines.{state_by_mark}

-- the machine's role, its peers and its labels have names
pub record AreEnoughFor (names : Names_data) (machine : Machine_data) : Type 0 where
  pub role : machine.role.0 < length names.roles
  pub peers : (n : ℕ) (mark : Mark) (peer : Role) (arms : List Arm) → slice_get machine.states n ≡ Some (state_by_mark mark peer arms) → peer.0 < length names.roles
  pub labels : (n place : ℕ) (mark : Mark) (peer : Role) (arms : List Arm) (arm : Arm) → slice_get machine.states n ≡ Some (state_by_mark mark peer arms) → slice_get arms place ≡ Some arm
      → arm.label.0 < length names.labels
