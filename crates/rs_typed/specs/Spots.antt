-- Public: what the laws of spots say of a state of a machine.
use Rattle.std.specs.Prelude.{◌≡◌, ℕ, List, [], ◌∷◌, Some, slice_get}
use Rattle.rs_model.specs.Data.{Machine_data}
use Rattle.rs_model.specs.declared.graph.Arm.{Arm}
use Rattle.rs_model.specs.declared.graph.Role.{Role}
use Rattle.rs_model.specs.declared.machines.State.TheVariants.{Done, Puts, Takes}

-- state s sends to the peer, and its arm at that place is this
abbrev pub HasArmPut : Machine_data → ℕ → Role → ℕ → Arm → Type 0
HasArmPut machine s peer place arm = (arms : List Arm) × (slice_get machine.states s ≡ Some (Puts peer arms)) × (slice_get arms place ≡ Some arm)

-- state s receives from the peer, and its one arm is this
abbrev pub HasArmTaken : Machine_data → ℕ → Role → Arm → Type 0
HasArmTaken machine s peer arm = slice_get machine.states s ≡ Some (Takes peer (arm ∷ []))

-- state s receives from the peer, and its two arms are these, in order
abbrev pub HasTwoArmsTaken : Machine_data → ℕ → Role → Arm → Arm → Type 0
HasTwoArmsTaken machine s peer first second = slice_get machine.states s ≡ Some (Takes peer (first ∷ second ∷ []))

-- state s is the end of the machine
abbrev pub IsDone : Machine_data → ℕ → Type 0
IsDone machine s = slice_get machine.states s ≡ Some Done
