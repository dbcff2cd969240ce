-- Public: which choices a role has.
use Rattle.std.specs.Prelude.{◌≡◌, ℕ, List, Option, Some, None, slice_get}
use Rattle.rs_model.specs.Sorts.{HasSort}
use Rattle.rs_model.specs.declared.graph.Arm.{Arm}
use Rattle.rs_model.specs.declared.graph.Label.{Label}
use Rattle.rs_model.specs.declared.graph.Role.{Role}
use Rattle.rs_model.specs.declared.machines.State.TheVariants.{Puts}
use Rattle.rs_core.specs.Actors.{Choice}
use Rattle.rs_core.specs.Configurations.{state_at}
use Rattle.rs_core.specs.Core.{Core_data, configuration_of}

-- role p stands in a state that sends to the peer, and the choice is one of its arms with a value of the arm's sort
pub record CanChoose (c : Core_data) (p : ℕ) (choice : Choice) (peer : Role) : Type 0 where
  pub arms : List Arm
  pub arm : Arm
  pub puts : state_at c.machines (configuration_of c) p ≡ Some (Puts peer arms)
  pub picks : slice_get arms choice.0 ≡ Some arm
  pub has_sort : HasSort choice.1 arm.sort

-- the choice is one of role p, by this arm
abbrev pub CanChooseBy : Core_data → ℕ → Choice → Role → Arm → Type 0
CanChooseBy c p choice peer arm = (can : CanChoose c p choice peer) × (can.arm ≡ arm)

-- the label of the arm at that place
abbrev pub label_of : Option Arm → Option Label
label_of None = None
label_of (Some arm) = Some arm.label
