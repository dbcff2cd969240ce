-- Public: what can happen if each queue is a ring that holds at most `capacity` messages.
use Rattle.std.specs.Prelude.{◌≡◌, ℕ, ◌<◌, List, [], ◌∷◌, Some, length}
use Rattle.rs_model.specs.Data.{Machine_data}
use Rattle.rs_model.specs.declared.graph.Arm.{Arm}
use Rattle.rs_model.specs.declared.graph.Role.{Role}
use Rattle.rs_model.specs.declared.machines.State.TheVariants.{Puts, Takes}
use Rattle.rs_core.specs.declared.messages.Event.{Event}
use Rattle.rs_core.specs.declared.messages.Event.TheVariants.{Send, Receive}
use Rattle.rs_core.specs.declared.messages.Message.{Message}
use Rattle.rs_core.specs.Configurations.{Configuration, Sends, Receives, StartsAt, role_of, state_at}
use Rattle.rs_core.specs.Safety.{AllEnded}

-- the event leads from c to d, and where it is a send, the ring that it sends to has room: it holds fewer messages than
-- the capacity
abbrev pub BoundedStep : List Machine_data → ℕ → Configuration → Event → Configuration → Type 0
BoundedStep machines capacity c (Send role arm value) d =
    (s : Sends machines c role.0 arm value d) × (length (c.queue role.0 s.peer.0) < capacity)
BoundedStep machines capacity c (Receive role) d = Receives machines c role.0 d

-- the events, one after the other, lead from c to d by bounded steps
abbrev pub BoundedSteps : List Machine_data → ℕ → Configuration → List Event → Configuration → Type 0
BoundedSteps machines capacity c [] d = c ≡ d
BoundedSteps machines capacity c (e ∷ es) d =
    (next : Configuration) × BoundedStep machines capacity c e next × BoundedSteps machines capacity next es d

-- some events lead from the start to c by bounded steps
pub record IsReachableWithin (machines : List Machine_data) (capacity : ℕ) (c : Configuration) : Type 0 where
  pub first : Configuration
  pub events : List Event
  pub starts : StartsAt machines first
  pub steps : BoundedSteps machines capacity first events c

-- role p has a bounded step: some event of its own is one
abbrev pub HasBoundedStep : List Machine_data → ℕ → Configuration → ℕ → Type 0
HasBoundedStep machines capacity c p =
    (event : Event) × (d : Configuration) × (role_of event ≡ p) × BoundedStep machines capacity c event d

-- no event is a bounded step, and yet not all have ended
pub record IsStuck (machines : List Machine_data) (capacity : ℕ) (c : Configuration) : Type 0 where
  pub no_step : (event : Event) (d : Configuration) → BoundedStep machines capacity c event d → ⊥
  pub not_ended : AllEnded machines c → ⊥

-- role p can go on: it is in a `Puts` state and the ring to the state's peer has room, or in a `Takes` state and a
-- message from the state's peer is in the queue
pub data CanMoveWithin (machines : List Machine_data) (capacity : ℕ) (c : Configuration) (p : ℕ) : Type 0 where
  MayPut : (peer : Role) (arms : List Arm) → state_at machines c p ≡ Some (Puts peer arms)
      → length (c.queue p peer.0) < capacity → CanMoveWithin machines capacity c p
  MayTake : (peer : Role) (arms : List Arm) (message : Message) (later : List Message)
      → state_at machines c p ≡ Some (Takes peer arms) → c.queue peer.0 p ≡ message ∷ later
      → CanMoveWithin machines capacity c p

-- some role can go on
abbrev pub CanStepWithin : List Machine_data → ℕ → Configuration → Type 0
CanStepWithin machines capacity c = (p : ℕ) × (p < length machines) × CanMoveWithin machines capacity c p
