-- Public: where an act leads, and the session behind it.
use Rattle.std.specs.Prelude.{ℕ, List, [], ◌∷◌, ◌++◌, Option, Some, None, Result, Ok, Err, slice_get, slice_index_or, slice_set, if◌then◌else◌, ◌==◌}
use Rattle.rs_model.specs.Sorts.{fits}
use Rattle.rs_model.specs.declared.graph.Arm.{Arm}
use Rattle.rs_model.specs.declared.graph.Label.{Label}
use Rattle.rs_model.specs.declared.graph.Role.{Role}
use Rattle.rs_model.specs.declared.machines.State.{State}
use Rattle.rs_model.specs.declared.machines.State.TheVariants.{Done, Puts, Takes}
use Rattle.rs_model.specs.declared.values.Value.{Value}
use Rattle.rs_core.specs.Configurations.{Message}
use Rattle.rs_core.specs.declared.messages.StepFault.{StepFault}
use Rattle.rs_core.specs.declared.messages.StepFault.TheVariants.{NotSending, NoArm, WrongSort, NotReceiving, QueueEmpty}
use Rattle.rs_core.specs.declared.cells.Way.{Way}
use Rattle.rs_core.specs.Core.{Core_data}

-- the arm with that label
abbrev pub arm_with : List Arm → Label → Option Arm
arm_with [] label = None
arm_with (a ∷ arms) label = if a.label.0 == label.0 then Some a else arm_with arms label

-- what a send needs to know: to whom it goes, its label, and the next state
abbrev pub way_by : Role → Option Arm → Value → Result Way StepFault
way_by peer None value = Err NoArm
way_by peer (Some arm) value = if fits value arm.sort then Ok record { peer = peer; label = arm.label; next = arm.next } else Err WrongSort

-- where a send goes in that state, by the arm at that place
abbrev pub way_of : Option State → ℕ → Value → Result Way StepFault
way_of None place value = Err NotSending
way_of (Some Done) place value = Err NotSending
way_of (Some (Takes peer arms)) place value = Err NotSending
way_of (Some (Puts peer arms)) place value = way_by peer (slice_get arms place) value

-- where a receive goes by that arm; it is none where no arm has the label of the oldest message, which machines that are safe don't meet
abbrev pub next_by : Role → Option Arm → Option Way
next_by peer None = None
next_by peer (Some arm) = Some record { peer = peer; label = arm.label; next = arm.next }

-- where a receive goes by the oldest message of these
abbrev pub front_by : Role → List Arm → List Message → Result (Option Way) StepFault
front_by peer arms [] = Err QueueEmpty
front_by peer arms (message ∷ later) = Ok (next_by peer (arm_with arms message.label))

-- where a receive goes in that state, with these queues to the role
abbrev pub way_in_front : Option State → (ℕ → List Message) → Result (Option Way) StepFault
way_in_front None queue = Err NotReceiving
way_in_front (Some Done) queue = Err NotReceiving
way_in_front (Some (Puts peer arms)) queue = Err NotReceiving
way_in_front (Some (Takes peer arms)) queue = front_by peer arms (queue peer.0)

-- p has sent the message to q, and its machine stands in the next state
abbrev pub with_sent : Core_data → ℕ → ℕ → ℕ → Message → Core_data
with_sent c p q next message = record {
  machines = c.machines;
  states = slice_set c.states p next;
  queues = slice_set c.queues p (slice_set (slice_index_or c.queues p []) q (slice_index_or (slice_index_or c.queues p []) q [] ++ message ∷ []));
}

-- p has taken the oldest message from q, these are left, and its machine stands in the next state
abbrev pub with_got : Core_data → ℕ → ℕ → ℕ → List Message → Core_data
with_got c p q next later = record {
  machines = c.machines;
  states = slice_set c.states p next;
  queues = slice_set c.queues q (slice_set (slice_index_or c.queues q []) p later);
}
