-- Public: what roles do, as rings tell it: parcels in histories, and acts that happened.
use Rattle.std.specs.Prelude.{◌≡◌, ℕ, List, [], ◌∷◌, length, flat_map, if◌then◌else◌, ◌==◌, Some, slice_get}
use Rattle.rs_model.specs.Data.{Machine_data}
use Rattle.rs_model.specs.Sorts.{HasSort}
use Rattle.rs_model.specs.declared.graph.Arm.{Arm}
use Rattle.rs_model.specs.declared.graph.Role.{Role}
use Rattle.rs_model.specs.declared.machines.State.TheVariants.{Puts, Takes}
use Rattle.rs_core.specs.declared.messages.Event.{Event}
use Rattle.rs_core.specs.declared.messages.Message.{Message}
use Rattle.rs_core.specs.Configurations.{Configuration, Sends, Receives, role_of, Step, state_of}
use Rattle.rs_core.specs.Histories.{Action, Sent, Got, History, action_of, IsLegal}
use Rattle.rs_slots.specs.declared.parcels.Parcel.{Parcel}

-- the role with that number
abbrev pub role_of_number : ℕ → Role
role_of_number p = record { 0 = p }

-- the parcel, as a message under way
abbrev pub message_of : Parcel → Message
message_of x = record { label = x.label; value = x.value }

-- what a role did that sent the parcel to q, or that got it from p
abbrev pub sent_act : ℕ → Parcel → Action
sent_act q x = Sent (role_of_number q) x.label x.value

-- what a role did that got the parcel from p
abbrev pub got_act : ℕ → Parcel → Action
got_act p x = Got (role_of_number p) x.label x.value

-- the parcels that a role has sent to q, by its history, in order
abbrev pub parcel_sent : ℕ → Action → List Parcel
parcel_sent q (Sent peer label value) = if q == peer.0 then record { label = label; value = value } ∷ [] else []
parcel_sent q (Got peer label value) = []

-- the parcels that a whole history sent to q
abbrev pub parcels_sent : ℕ → History → List Parcel
parcels_sent q h = flat_map (parcel_sent q) h

-- the parcels that one action got from p
abbrev pub parcel_got : ℕ → Action → List Parcel
parcel_got p (Sent peer label value) = []
parcel_got p (Got peer label value) = if p == peer.0 then record { label = label; value = value } ∷ [] else []

-- the parcels that a whole history got from p
abbrev pub parcels_got : ℕ → History → List Parcel
parcels_got p h = flat_map (parcel_got p) h

-- role p, in state s, may put the parcel to q: an arm of the state has its label and a sort that its value has, and leads
-- to the state `next`
pub record MayPut (machines : List Machine_data) (p q s : ℕ) (x : Parcel) (next : ℕ) : Type 0 where
  pub arms : List Arm
  pub place : ℕ
  pub arm : Arm
  pub puts : state_of (slice_get machines p) s ≡ Some (Puts (role_of_number q) arms)
  pub picks : slice_get arms place ≡ Some arm
  pub same_label : arm.label ≡ x.label
  pub has_sort : HasSort x.value arm.sort
  pub goes : next ≡ arm.next

-- role q, in state s, may take the parcel from p, by an arm as above
pub record MayTake (machines : List Machine_data) (q p s : ℕ) (x : Parcel) (next : ℕ) : Type 0 where
  pub arms : List Arm
  pub place : ℕ
  pub arm : Arm
  pub takes : state_of (slice_get machines q) s ≡ Some (Takes (role_of_number p) arms)
  pub picks : slice_get arms place ≡ Some arm
  pub same_label : arm.label ≡ x.label
  pub has_sort : HasSort x.value arm.sort
  pub goes : next ≡ arm.next

-- role p sends the parcel to q, from c to d
pub record SendsParcel (machines : List Machine_data) (c : Configuration) (p q : ℕ) (x : Parcel) (d : Configuration) : Type 0 where
  pub place : ℕ
  pub step : Sends machines c p place x.value d
  pub did : Sent step.peer step.arm.label x.value ≡ sent_act q x

-- role q receives the parcel from p, from c to d: it is the oldest that is under way from p to q in c
pub record ReceivesParcel (machines : List Machine_data) (c : Configuration) (q p : ℕ) (x : Parcel) (d : Configuration) : Type 0 where
  pub step : Receives machines c q d
  pub did : Got step.peer step.message.label step.message.value ≡ got_act p x

-- role p did this by an event: just before it p had the history h, and the histories of all roles were legal and led to
-- the configuration that it left
pub record Happened (machines : List Machine_data) (p : ℕ) (h : History) (a : Action) : Type 0 where
  pub histories : ℕ → History
  pub before : Configuration
  pub event : Event
  pub after : Configuration
  pub legal : IsLegal machines histories before
  pub own : histories p ≡ h
  pub whose : role_of event ≡ p
  pub step : Step machines before event after
  pub did : action_of machines before event after step ≡ a

-- q had taken so many parcels from p at a moment at which p had the history h, and the histories of all roles were legal
pub record HadTaken (machines : List Machine_data) (p : ℕ) (h : History) (q n : ℕ) : Type 0 where
  pub histories : ℕ → History
  pub moment : Configuration
  pub legal : IsLegal machines histories moment
  pub own : histories p ≡ h
  pub taken : n ≡ length (parcels_got p (histories q))

-- p had put so many parcels to q at a moment at which q had the history h, and the histories of all roles were legal
pub record HadPut (machines : List Machine_data) (q : ℕ) (h : History) (p n : ℕ) : Type 0 where
  pub histories : ℕ → History
  pub moment : Configuration
  pub legal : IsLegal machines histories moment
  pub own : histories q ≡ h
  pub put : n ≡ length (parcels_sent q (histories p))
