-- Public: what each fault of a step says.
use Rattle.std.specs.Prelude.{◌≡◌, ℕ, List, [], Option, Some, None, slice_get}
use Rattle.rs_model.specs.Data.{Machine_data}
use Rattle.rs_model.specs.Sorts.{HasSort}
use Rattle.rs_model.specs.declared.graph.Arm.{Arm}
use Rattle.rs_model.specs.declared.graph.Role.{Role}
use Rattle.rs_model.specs.declared.machines.State.{State}
use Rattle.rs_model.specs.declared.machines.State.TheVariants.{Puts, Takes}
use Rattle.rs_model.specs.declared.values.Value.{Value}
use Rattle.rs_core.specs.Configurations.{Message, Event, Send, Receive, Configuration, state_at}
use Rattle.rs_core.specs.declared.messages.StepFault.{StepFault}
use Rattle.rs_core.specs.declared.messages.StepFault.TheVariants.{NotSending, NoArm, WrongSort, NotReceiving, QueueEmpty}

-- what a fault says of a send in that state, by the arm at that place: the state doesn't send; it has no arm there; it has
-- one, and the value isn't of its sort
abbrev pub SendBlames : Option State → ℕ → Value → StepFault → Type 0
SendBlames state place value NotSending = (peer : Role) (arms : List Arm) → state ≡ Some (Puts peer arms) → ⊥
SendBlames state place value NoArm = (peer : Role) × (arms : List Arm) × (state ≡ Some (Puts peer arms)) × (slice_get arms place ≡ None)
SendBlames state place value WrongSort = (peer : Role) × (arms : List Arm) × (arm : Arm) × (state ≡ Some (Puts peer arms))
    × (slice_get arms place ≡ Some arm) × (HasSort value arm.sort → ⊥)
SendBlames state place value _ = ⊥

-- what a fault says of a receive in that state, with these queues to the role: the state doesn't receive; or it does, and
-- nothing is under way from its peer
abbrev pub ReceiveBlames : Option State → (ℕ → List Message) → StepFault → Type 0
ReceiveBlames state queue NotReceiving = (peer : Role) (arms : List Arm) → state ≡ Some (Takes peer arms) → ⊥
ReceiveBlames state queue QueueEmpty = (peer : Role) × (arms : List Arm) × (state ≡ Some (Takes peer arms)) × (queue peer.0 ≡ [])
ReceiveBlames state queue _ = ⊥

-- what a fault says of the event
abbrev pub StepBlames : List Machine_data → Configuration → Event → StepFault → Type 0
StepBlames machines c (Send role place value) fault = SendBlames (state_at machines c role.0) place value fault
StepBlames machines c (Receive role) fault = ReceiveBlames (state_at machines c role.0) (λ p. c.queue p role.0) fault
