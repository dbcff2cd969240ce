-- Public: a session as `Core` keeps it, and the configuration that it shows.
use Rattle.std.specs.Prelude.{◌≡◌, ℕ, ◌<◌, List, [], ◌∷◌, Option, Some, None, slice_get, slice_index_or, length, if◌then◌else◌}
use Rattle.rs_model.specs.Data.{Machine_data}
use Rattle.rs_model.specs.Sorts.{fits}
use Rattle.rs_model.specs.declared.graph.Arm.{Arm}
use Rattle.rs_model.specs.declared.machines.State.{State}
use Rattle.rs_model.specs.declared.machines.State.TheVariants.{Done, Puts, Takes}
use Rattle.rs_model.specs.declared.values.Value.{Value}
use Rattle.rs_core.specs.Choices.{AreWellFormed}
use Rattle.rs_core.specs.Configurations.{Message, Event, Send, Receive, Configuration, IsReachable, Sends, Receives, state_at}
use Rattle.rs_core.specs.Safety.{IsSafe}
use Rattle.rs_core.specs.declared.messages.StepFault.{StepFault}
use Rattle.rs_core.specs.declared.messages.StepFault.TheVariants.{NotSending, NoArm, WrongSort, NotReceiving, QueueEmpty, NoMemory}
use Rattle.rs_core.specs.declared.messages.Stepped.{Stepped}
use Rattle.rs_core.specs.declared.messages.Stepped.TheVariants as stepped

-- the machines, the number of each one's state, and the queues: for each sender a row with one for each receiver
pub record Core_data : Type 0 where
  pub machines : List Machine_data
  pub states : List ℕ
  pub queues : List (List (List Message))

-- the configuration that it shows
abbrev pub configuration_of : Core_data → Configuration
configuration_of c = record {
  at = λ p. slice_index_or c.states p 0;
  queue = λ p q. slice_index_or (slice_index_or c.queues p []) q [];
}

-- there is a state for each machine, and a queue for each pair of them
pub record HasPlaces (c : Core_data) : Type 0 where
  pub states : length c.states ≡ length c.machines
  pub rows : length c.queues ≡ length c.machines
  pub queues : (p : ℕ) → p < length c.machines → length (slice_index_or c.queues p []) ≡ length c.machines

-- what holds of every session: its machines are safe and well formed, and it has been reached from the start
pub record IsReachedSession (c : Core_data) : Type 0 where
  pub safe : IsSafe c.machines
  pub well_formed : AreWellFormed c.machines
  pub places : HasPlaces c
  pub reachable : IsReachable c.machines (configuration_of c)

-- what is wrong with a send, in this order: the state doesn't send, it has no such arm, the value isn't of its sort
abbrev pub arm_fault : Option Arm → Value → Option StepFault
arm_fault None value = Some NoArm
arm_fault (Some arm) value = if fits value arm.sort then None else Some WrongSort

-- what is wrong with a send in that state, by the arm at that place
abbrev pub send_fault : Option State → ℕ → Value → Option StepFault
send_fault None place value = Some NotSending
send_fault (Some Done) place value = Some NotSending
send_fault (Some (Takes peer arms)) place value = Some NotSending
send_fault (Some (Puts peer arms)) place value = arm_fault (slice_get arms place) value

-- what is wrong with a receive from that queue: it is empty
abbrev pub queue_fault : List Message → Option StepFault
queue_fault [] = Some QueueEmpty
queue_fault (message ∷ later) = None

-- what is wrong with a receive in that state, with these queues to the role: the state doesn't receive, or the queue from its peer is empty
abbrev pub receive_fault : Option State → (ℕ → List Message) → Option StepFault
receive_fault None queue = Some NotReceiving
receive_fault (Some Done) queue = Some NotReceiving
receive_fault (Some (Puts peer arms)) queue = Some NotReceiving
receive_fault (Some (Takes peer arms)) queue = queue_fault (queue peer.0)

-- the first thing that is wrong with the event
abbrev pub step_fault : List Machine_data → Configuration → Event → Option StepFault
step_fault machines c (Send role arm value) = send_fault (state_at machines c role.0) arm value
step_fault machines c (Receive role) = receive_fault (state_at machines c role.0) (λ p. c.queue p role.0)

-- the first fault of a send is this one; or there is none, and it is want of memory
abbrev pub IsUnsent : Option StepFault → StepFault → Type 0
IsUnsent first NoMemory = first ≡ None
IsUnsent first fault = first ≡ Some fault

-- the fault is the first thing that is wrong; or nothing is, and it is want of memory at a send
abbrev pub StepIsRefused : List Machine_data → Configuration → Event → StepFault → Type 0
StepIsRefused machines c (Send role arm value) fault = IsUnsent (step_fault machines c (Send role arm value)) fault
StepIsRefused machines c (Receive role) fault = step_fault machines c (Receive role) ≡ Some fault

-- role p has received the message
abbrev pub HasReceived : List Machine_data → Configuration → ℕ → Configuration → Message → Type 0
HasReceived machines c p d m = (step : Receives machines c p d) × (step.message ≡ m)

-- the event leads from c to d, and this is what is told of it
abbrev pub HasStepped : List Machine_data → Configuration → Event → Configuration → Stepped → Type 0
HasStepped machines c (Send role arm value) d stepped.Sent = Sends machines c role.0 arm value d
HasStepped machines c (Receive role) d (stepped.Got label v) = HasReceived machines c role.0 d record { label = label; value = v }
HasStepped machines c _ d _ = ⊥
