-- Steps: how it is noted which receives of its own a machine makes, node by node.
use Rattle.std.specs.Prelude.{◌≡◌, ℕ, List, [], ◌∷◌, length, Bool, true, ◌||◌, ◌==◌, slice_get, Option, Some, None}
use Rattle.rs_derive.specs.Data.{DNode_data}
use Rattle.rs_model.specs.declared.graph.Arm.{Arm}
use Rattle.rs_model.specs.declared.graph.Label.{Label}
use Rattle.rs_model.specs.declared.machines.Act.{Act}
use Rattle.rs_model.specs.declared.machines.State.{State}
use Rattle.rs_model.specs.declared.machines.State.TheVariants.{Done, Puts, Takes}
use Rattle.rs_reasons.specs.Uses.{arms_taken, is_visited, label_next}

-- what nodes do at a state: whether one stands there, and of each arm of a receive whether one takes it
pub record StateUse_data : Type 0 where
  pub visited : Bool
  pub taken : List Bool

-- the arms of a receive
abbrev pub arms_of_receive : State → List Arm
arms_of_receive Done = []
arms_of_receive (Puts peer arms) = []
arms_of_receive (Takes peer arms) = arms

-- what these nodes do at the state with the number
abbrev pub use_of : List DNode_data → ℕ → State → StateUse_data
use_of nodes number state = record { visited = is_visited nodes number; taken = arms_taken nodes number state }

-- what these nodes do at each of the states
pub record AreUses (nodes : List DNode_data) (states : List State) (uses : List StateUse_data) : Type 0 where
  pub many : length uses ≡ length states
  pub each : (number : ℕ) (state : State) (use_ : StateUse_data) → slice_get states number ≡ Some state → slice_get uses number ≡ Some use_
      → use_ ≡ use_of nodes number state

-- the flags of arms, of which those with the label are set
abbrev pub marked : Label → List Arm → List Bool → List Bool
marked label [] taken = taken
marked label (a ∷ arms) [] = []
marked label (a ∷ arms) (flag ∷ taken) = (flag || (a.label.0 == label.0)) ∷ marked label arms taken

-- the same for the label, where there is one
abbrev pub marked_by : Option Label → List Arm → List Bool → List Bool
marked_by None arms taken = taken
marked_by (Some label) arms taken = marked label arms taken

-- the use of the state, where one node more stands there and owes these acts
abbrev pub noted : State → List Act → StateUse_data → StateUse_data
noted Done pending u = record { visited = true; taken = u.taken }
noted (Puts peer arms) pending u = record { visited = true; taken = u.taken }
noted (Takes peer arms) pending u = record { visited = true; taken = marked_by (label_next pending peer) arms u.taken }
