-- Public: names that are enough for a protocol.
use Rattle.std.specs.Prelude.{◌≡◌, ℕ, ◌<◌, List, length, Some, slice_get}
use Rattle.rs_model.specs.Data.{Protocol_data, Names_data}
use Rattle.rs_model.specs.declared.graph.Arm.{Arm}
use Rattle.rs_model.specs.declared.graph.Node.TheVariants.{Talk}
use Rattle.rs_model.specs.declared.graph.Role.{Role}

-- there are as many role names as the protocol has roles, and each label of the protocol has a name
pub record AreEnough (names : Names_data) (protocol : Protocol_data) : Type 0 where
  pub roles : length names.roles ≡ protocol.roles
  pub labels : (n place : ℕ) (sender receiver : Role) (arms : List Arm) (arm : Arm) → slice_get protocol.nodes n ≡ Some (Talk sender receiver arms) → slice_get arms place ≡ Some arm
      → arm.label.0 < length names.labels
