-- Public: why an act isn't one of a state's, each reason by itself, of which no two apply.
use Rattle.std.specs.Prelude.{◌≡◌, ◌≢◌, ◌⊎◌, ℕ, List, Option, Some, slice_get}
use Rattle.rs_model.specs.Sorts.{HasSort}
use Rattle.rs_model.specs.declared.graph.Arm.{Arm}
use Rattle.rs_model.specs.declared.graph.Role.{Role}
use Rattle.rs_model.specs.declared.machines.State.{State}
use Rattle.rs_model.specs.declared.machines.State.TheVariants.{Puts, Takes}
use Rattle.rs_monitor.specs.Acts.{ProgramAct, Sent, Received, message_of, peer_of, state_for}
use Rattle.rs_monitor.specs.declared.acts.Refusal.{Refusal}
use Rattle.rs_monitor.specs.declared.acts.Refusal.TheVariants.{AnotherPeer, StateReceives, StateSends, NoSuchLabel, AnotherSort, HasEnded}

-- the state sends to the peer, or receives from it, by these arms
abbrev pub HasPeer : Option State → Role → List Arm → Type 0
HasPeer state peer arms = (state ≡ Some (Puts peer arms)) ⊎ (state ≡ Some (Takes peer arms))

-- an arm has the label of the act's message
pub record HasLabel (arms : List Arm) (act : ProgramAct) : Type 0 where
  pub place : ℕ
  pub arm : Arm
  pub picks : slice_get arms place ≡ Some arm
  pub same_label : arm.label ≡ (message_of act).label

-- of the arms with the label of the act's message none has a sort that the message's value has
abbrev pub HasNoSort : List Arm → ProgramAct → Type 0
HasNoSort arms act = (place : ℕ) (arm : Arm) → slice_get arms place ≡ Some arm → arm.label ≡ (message_of act).label
    → HasSort (message_of act).value arm.sort → ⊥

-- why the act isn't one of the state's. AnotherPeer: the state's peer is another role. StateReceives: the act is a send, and the
-- state receives from its peer. StateSends: the act is a receive, and the state sends to its peer. NoSuchLabel: the state is one
-- for the act, and no arm has the message's label. AnotherSort: an arm has the label, and no arm with the label has a sort that
-- the value has. HasEnded: the state neither sends nor receives.
abbrev pub IsRefusedFor : Option State → ProgramAct → Refusal → Type 0
IsRefusedFor state act AnotherPeer = (peer : Role) × (arms : List Arm) × HasPeer state peer arms × (peer ≢ peer_of act)
IsRefusedFor state (Sent peer message) StateReceives = (arms : List Arm) × (state ≡ Some (Takes peer arms))
IsRefusedFor state (Received peer message) StateReceives = ⊥
IsRefusedFor state (Sent peer message) StateSends = ⊥
IsRefusedFor state (Received peer message) StateSends = (arms : List Arm) × (state ≡ Some (Puts peer arms))
IsRefusedFor state act NoSuchLabel = (arms : List Arm) × (state ≡ Some (state_for act arms)) × (HasLabel arms act → ⊥)
IsRefusedFor state act AnotherSort = (arms : List Arm) × (state ≡ Some (state_for act arms)) × HasLabel arms act × HasNoSort arms act
IsRefusedFor state act HasEnded = (peer : Role) (arms : List Arm) → HasPeer state peer arms → ⊥
