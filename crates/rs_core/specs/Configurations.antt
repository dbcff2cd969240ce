-- Headline: machines that talk over queues, and the steps that they can make together: communicating finite state machines, with
-- one unbounded first-in-first-out queue for each ordered pair of roles. In a list of machines the machine at place p
-- is that of role p.
use Rattle.std.specs.Prelude.{◌≡◌, ◌≢◌, ◌⊎◌, ℕ, List, [], ◌∷◌, ◌++◌, Option, Some, None, slice_get}
use Rattle.rs_model.specs.Data.{Machine_data}
use Rattle.rs_model.specs.Sorts.{HasSort}
use Rattle.rs_model.specs.declared.graph.Arm.{Arm}
use Rattle.rs_model.specs.declared.graph.Role.{Role}
use Rattle.rs_model.specs.declared.machines.State.{State}
use Rattle.rs_model.specs.declared.machines.State.TheVariants.{Puts, Takes}
use Rattle.rs_model.specs.declared.values.Value.{Value}
pub use Rattle.rs_core.specs.declared.messages.Event.{Event}
pub use Rattle.rs_core.specs.declared.messages.Event.TheVariants.{Send, Receive}
pub use Rattle.rs_core.specs.declared.messages.Message.{Message}

-- one moment of a session: for each role the number of the state in which its machine stands, and for each ordered pair
-- of roles what is under way from the first to the second, the oldest message first
pub record Configuration : Type 0 where
  pub at : ℕ → ℕ
  pub queue : ℕ → ℕ → List Message

-- at the start each machine stands in its start state, and every queue is empty
pub record StartsAt (machines : List Machine_data) (c : Configuration) : Type 0 where
  pub states : (p : ℕ) (m : Machine_data) → slice_get machines p ≡ Some m → c.at p ≡ m.start
  pub queues : (p q : ℕ) → c.queue p q ≡ []

-- the state of that number, where there is a machine and it has such a state
abbrev pub state_of : Option Machine_data → ℕ → Option State
state_of None s = None
state_of (Some m) s = slice_get m.states s

-- the state in which role p's machine stands
abbrev pub state_at : List Machine_data → Configuration → ℕ → Option State
state_at machines c p = state_of (slice_get machines p) (c.at p)

-- role p sends: its machine stands in a `Puts` state, it picks the arm at some place of that state and a value of the
-- arm's sort, and the message with the arm's label goes behind the others that are under way to the state's peer. The
-- machine goes to the arm's next state. All else stays.
pub record Sends (machines : List Machine_data) (c : Configuration) (p place : ℕ) (value : Value) (d : Configuration) : Type 0 where
  pub peer : Role
  pub arms : List Arm
  pub arm : Arm
  pub puts : state_at machines c p ≡ Some (Puts peer arms)
  pub picks : slice_get arms place ≡ Some arm
  pub has_sort : HasSort value arm.sort
  pub goes : d.at p ≡ arm.next
  pub appends : d.queue p peer.0 ≡ c.queue p peer.0 ++ (record { label = arm.label; value = value } ∷ [])
  pub other_states : (r : ℕ) → r ≢ p → d.at r ≡ c.at r
  pub other_queues : (x y : ℕ) → (x ≢ p) ⊎ (y ≢ peer.0) → d.queue x y ≡ c.queue x y

-- role p receives: its machine stands in a `Takes` state that has an arm with the label of the oldest message from the
-- state's peer, and the message's value has that arm's sort. The message leaves the queue, and the machine goes to the
-- arm's next state. All else stays.
pub record Receives (machines : List Machine_data) (c : Configuration) (p : ℕ) (d : Configuration) : Type 0 where
  pub peer : Role
  pub arms : List Arm
  pub place : ℕ
  pub arm : Arm
  pub message : Message
  pub takes : state_at machines c p ≡ Some (Takes peer arms)
  pub removes : c.queue peer.0 p ≡ message ∷ d.queue peer.0 p
  pub follows : slice_get arms place ≡ Some arm
  pub same_label : arm.label ≡ message.label
  pub has_sort : HasSort message.value arm.sort
  pub goes : d.at p ≡ arm.next
  pub other_states : (r : ℕ) → r ≢ p → d.at r ≡ c.at r
  pub other_queues : (x y : ℕ) → (x ≢ peer.0) ⊎ (y ≢ p) → d.queue x y ≡ c.queue x y

-- the number of the role whose step the event is
abbrev pub role_of : Event → ℕ
role_of (Send role arm value) = role.0
role_of (Receive role) = role.0

-- the event leads from configuration c to configuration d
abbrev pub Step : List Machine_data → Configuration → Event → Configuration → Type 0
Step machines c (Send role arm value) d = Sends machines c role.0 arm value d
Step machines c (Receive role) d = Receives machines c role.0 d

-- the events, one after the other, lead from c to d
abbrev pub Steps : List Machine_data → Configuration → List Event → Configuration → Type 0
Steps machines c [] d = c ≡ d
Steps machines c (e ∷ es) d = (next : Configuration) × Step machines c e next × Steps machines next es d

-- some events lead from the start to c: nothing is said of who comes next or of what a sender picks, so these are all
-- the configurations that the machines can come to
pub record IsReachable (machines : List Machine_data) (c : Configuration) : Type 0 where
  pub first : Configuration
  pub events : List Event
  pub starts : StartsAt machines first
  pub steps : Steps machines first events c

-- the same states, and the same messages under way
pub record IsSame (c d : Configuration) : Type 0 where
  pub at : (p : ℕ) → c.at p ≡ d.at p
  pub queue : (p q : ℕ) → c.queue p q ≡ d.queue p q
