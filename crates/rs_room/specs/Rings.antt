-- Public: a session over rings as `Bounded` keeps it, and what is known of its steps.
use Rattle.std.specs.Prelude.{◌≡◌, ◌≢◌, ◌⊎◌, ℕ, suc, ◌+◌, ◌<◌, ◌≤◌, List, [], Some, None, slice_index_or, length}
use Rattle.rs_model.specs.Limits.{IsCapacity}
use Rattle.rs_model.specs.Data.{Machine_data}
use Rattle.rs_model.specs.declared.graph.Arm.{Arm}
use Rattle.rs_model.specs.declared.graph.Role.{Role}
use Rattle.rs_model.specs.declared.machines.State.TheVariants.{Puts, Takes}
use Rattle.rs_model.specs.declared.values.Value.{Value}
use Rattle.rs_core.specs.declared.messages.Event.{Event}
use Rattle.rs_core.specs.declared.messages.Event.TheVariants.{Send, Receive}
use Rattle.rs_core.specs.declared.messages.StepFault.TheVariants as step_fault
use Rattle.rs_core.specs.declared.messages.Stepped.{Stepped}
use Rattle.rs_core.specs.Configurations.{Configuration, role_of, state_at}
use Rattle.rs_core.specs.Core.{Core_data, HasStepped, StepIsRefused, configuration_of, step_fault}
use Rattle.rs_safety.specs.Accepting.{Accepted_data, IsAcceptedSession}
use Rattle.rs_safety.specs.Room.{room_of}
use Rattle.rs_room.specs.Bounded.{BoundedStep, IsReachableWithin}
use Rattle.rs_room.specs.Counts.{count_for_pair}
use Rattle.rs_room.specs.declared.rings.BoundedFault.{BoundedFault}
use Rattle.rs_room.specs.declared.rings.BoundedRefused.{BoundedRefused}
use Rattle.rs_room.specs.declared.rings.BoundedFault.TheVariants.{NotSending, NoArm, WrongSort, NotReceiving, QueueEmpty, NoMemory, QueueFull}

-- the session, the capacity of its rings, the room that its derivations show, how many steps it has made, and for each
-- sender a row of how many messages each receiver has taken from it
pub record Bounded_data : Type 0 where
  pub core : Core_data
  pub capacity : ℕ
  pub room : ℕ
  pub steps : ℕ
  pub taken : List (List ℕ)

-- how many messages q has taken from p since the start
abbrev pub messages_taken : Bounded_data → ℕ → ℕ → ℕ
messages_taken b p q = count_for_pair b.taken p q

-- how many messages p has put into the ring to q since the start: those that were taken, and those that are in it
abbrev pub messages_sent : Bounded_data → ℕ → ℕ → ℕ
messages_sent b p q = messages_taken b p q + length ((configuration_of b.core).queue p q)

-- what holds of every session over rings: it is an accepted one, with the room that its derivations show, it has come from the start by
-- bounded steps, and no ring holds more than its capacity
pub record IsRingSession (b : Bounded_data) : Type 0 where
  pub session : Accepted_data
  pub accepted : IsAcceptedSession session
  pub machines : b.core.machines ≡ session.machines
  pub room : b.room ≡ room_of session.derivations
  pub capacity : IsCapacity b.capacity
  pub reachable : IsReachableWithin b.core.machines b.capacity (configuration_of b.core)
  pub within : (p q : ℕ) → length ((configuration_of b.core).queue p q) ≤ b.capacity
  pub rows : length b.taken ≡ length b.core.machines
  pub places : (p : ℕ) → p < length b.core.machines → length (slice_index_or b.taken p []) ≡ length b.core.machines
  pub bounded : (p q : ℕ) → messages_taken b p q ≤ b.steps

-- the event is a bounded step from c to d, and this is what is known of it
pub record HasSteppedWithin (machines : List Machine_data) (capacity : ℕ) (c : Configuration) (event : Event) (d : Configuration) (told : Stepped) : Type 0 where
  pub step : BoundedStep machines capacity c event d
  pub tells : HasStepped machines c event d told

-- the number of the pair x and y rises by one, and those of all other pairs stay
pub record Rises (old new : ℕ → ℕ → ℕ) (x y : ℕ) : Type 0 where
  pub rises : new x y ≡ suc (old x y)
  pub others : (p q : ℕ) → (p ≢ x) ⊎ (q ≢ y) → new p q ≡ old p q

-- a send is counted as one message more that was sent, from its role to the state's peer
pub record CountsSend (b d : Bounded_data) (role : ℕ) : Type 0 where
  pub peer : Role
  pub arms : List Arm
  pub puts : state_at b.core.machines (configuration_of b.core) role ≡ Some (Puts peer arms)
  pub sent : Rises (messages_sent b) (messages_sent d) role peer.0
  pub taken : (p q : ℕ) → messages_taken d p q ≡ messages_taken b p q

-- a receive is counted as one more that was taken, by its role from the state's peer
pub record CountsReceive (b d : Bounded_data) (role : ℕ) : Type 0 where
  pub peer : Role
  pub arms : List Arm
  pub takes : state_at b.core.machines (configuration_of b.core) role ≡ Some (Takes peer arms)
  pub sent : (p q : ℕ) → messages_sent d p q ≡ messages_sent b p q
  pub taken : Rises (messages_taken b) (messages_taken d) peer.0 role

-- each event counts so
abbrev pub CountsStep : Bounded_data → Event → Bounded_data → Type 0
CountsStep b (Send role arm value) d = CountsSend b d role.0
CountsStep b (Receive role) d = CountsReceive b d role.0

-- nothing is wrong with the event, but it is a send into a ring that is full: the ring to this peer holds as many messages
-- as the capacity
pub record FindsRingFull (b : Bounded_data) (event : Event) (peer : Role) : Type 0 where
  pub role : Role
  pub arm : ℕ
  pub value : Value
  pub arms : List Arm
  pub sends : event ≡ Send role arm value
  pub puts : state_at b.core.machines (configuration_of b.core) role.0 ≡ Some (Puts peer arms)
  pub right : step_fault b.core.machines (configuration_of b.core) event ≡ None
  pub full : length ((configuration_of b.core).queue role.0 peer.0) ≡ b.capacity

-- the event is a send into a full ring, with these counts
pub record IsRingFull (b : Bounded_data) (event : Event) (sent taken : ℕ) : Type 0 where
  pub peer : Role
  pub finds : FindsRingFull b event peer
  pub sent' : sent ≡ messages_sent b (role_of event) peer.0
  pub taken' : taken ≡ messages_taken b (role_of event) peer.0

-- why the event is refused: over unbounded queues it would be refused so, too; or it is a send into a full ring. Memory is
-- wanted only where no ring is full.
abbrev pub IsRefusedWithin : Bounded_data → Event → BoundedFault → Type 0
IsRefusedWithin b event NotSending = StepIsRefused b.core.machines (configuration_of b.core) event step_fault.NotSending
IsRefusedWithin b event NoArm = StepIsRefused b.core.machines (configuration_of b.core) event step_fault.NoArm
IsRefusedWithin b event WrongSort = StepIsRefused b.core.machines (configuration_of b.core) event step_fault.WrongSort
IsRefusedWithin b event NotReceiving = StepIsRefused b.core.machines (configuration_of b.core) event step_fault.NotReceiving
IsRefusedWithin b event QueueEmpty = StepIsRefused b.core.machines (configuration_of b.core) event step_fault.QueueEmpty
IsRefusedWithin b event NoMemory =
    StepIsRefused b.core.machines (configuration_of b.core) event step_fault.NoMemory × ((peer : Role) → FindsRingFull b event peer → ⊥)
IsRefusedWithin b event (QueueFull sent taken) = IsRingFull b event sent taken

-- the event was refused for this fault, and comes back
pub record HandsBack (b : Bounded_data) (event : Event) (r : BoundedRefused) : Type 0 where
  pub refused : IsRefusedWithin b event r.fault
  pub back : r.event ≡ event

-- the machines, the capacity of the rings and the room stay
pub record KeepsWhatIsFixed (b d : Bounded_data) : Type 0 where
  pub same_machines : d.core.machines ≡ b.core.machines
  pub same_capacity : d.capacity ≡ b.capacity
  pub same_room : d.room ≡ b.room
