-- Public: machines whose roles and labels have names.
use Rattle.std.specs.Prelude.{◌<◌, List, length}
use Rattle.std.specs.List.{All}
use Rattle.rs_model.specs.Data.{Machine_data, Names_data}
use Rattle.rs_model.specs.declared.graph.Arm.{Arm}
use Rattle.rs_model.specs.declared.graph.Role.{Role}
use Rattle.rs_model.specs.declared.machines.State.{State}
use Rattle.rs_model.specs.declared.machines.State.TheVariants as state

-- the label of an arm has a name
abbrev pub ArmHasName : Names_data → Arm → Type 0
ArmHasName names a = a.label.0 < length names.labels

-- the peer and the labels of a state have names
abbrev pub ChoiceHasNames : Names_data → Role → List Arm → Type 0
ChoiceHasNames names peer arms = (peer.0 < length names.roles) × All (ArmHasName names) arms

-- the peer and the labels of a state of any kind have names
abbrev pub StateHasNames : Names_data → State → Type 0
StateHasNames names state.Done = Unit {0}
StateHasNames names (state.Puts peer arms) = ChoiceHasNames names peer arms
StateHasNames names (state.Takes peer arms) = ChoiceHasNames names peer arms

-- every role and label of the machine has a name
pub record HasNames (names : Names_data) (machine : Machine_data) : Type 0 where
  pub role : machine.role.0 < length names.roles
  pub states : All (StateHasNames names) machine.states
