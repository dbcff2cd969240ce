-- Public: the acts of a role's transcript, with the sorts that the role's machine gives them.
use Rattle.std.specs.Prelude.{ℕ, List, [], ◌∷◌, Option, Some, None, slice_get}
use Rattle.rs_model.specs.Data.{Machine_data}
use Rattle.rs_model.specs.declared.graph.Arm.{Arm}
use Rattle.rs_model.specs.declared.graph.Label.{Label}
use Rattle.rs_model.specs.declared.machines.Act.{Act}
use Rattle.rs_model.specs.declared.machines.Act.TheVariants as act
use Rattle.rs_model.specs.declared.machines.State.{State}
use Rattle.rs_model.specs.declared.machines.State.TheVariants.{Done, Puts, Takes}
use Rattle.rs_model.specs.declared.values.Sort.{Sort}
use Rattle.rs_model.specs.declared.values.Sort.TheVariants as sort
use Rattle.rs_core.specs.Ways.{arm_with}
use Rattle.rs_core.specs.declared.transcripts.Entry.{Entry}
use Rattle.rs_core.specs.declared.transcripts.Entry.TheVariants as entry

-- the label of an entry
abbrev pub entry_label : Entry → Label
entry_label (entry.Sent peer label) = label
entry_label (entry.Got peer label value) = label

-- the arms of a state
abbrev pub state_arms : Option State → List Arm
state_arms (Some (Puts peer arms)) = arms
state_arms (Some (Takes peer arms)) = arms
state_arms (Some Done) = []
state_arms None = []

-- the arm by which the machine makes an entry in the state with this number. What a machine has played has one
abbrev pub arm_of_entry : Machine_data → ℕ → Entry → Option Arm
arm_of_entry machine state e = arm_with (state_arms (slice_get machine.states state)) (entry_label e)

-- the sort of an arm
abbrev pub sort_by : Option Arm → Sort
sort_by (Some arm) = arm.sort
sort_by None = sort.Unit

-- the state after an arm
abbrev pub state_after : ℕ → Option Arm → ℕ
state_after state (Some arm) = arm.next
state_after state None = state

-- an entry as an act with this sort
abbrev pub act_with : Sort → Entry → Act
act_with s (entry.Sent peer label) = act.Puts peer label s
act_with s (entry.Got peer label value) = act.Takes peer label s

-- the acts of entries that the machine makes from the state with this number on
abbrev pub acts_from : Machine_data → ℕ → List Entry → List Act
acts_from machine state [] = []
acts_from machine state (e ∷ later) = act_with (sort_by (arm_of_entry machine state e)) e ∷ acts_from machine (state_after state (arm_of_entry machine state e)) later

-- the acts of each role, by its machine and its transcript
abbrev pub acts_of : List Machine_data → List (List Entry) → List (List Act)
acts_of (machine ∷ machines) (transcript ∷ transcripts) = acts_from machine machine.start transcript ∷ acts_of machines transcripts
acts_of (machine ∷ machines) [] = []
acts_of [] transcripts = []
