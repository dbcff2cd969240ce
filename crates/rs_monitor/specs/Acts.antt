-- Public: which acts a state of a machine has.
use Rattle.std.specs.Prelude.{◌≡◌, ℕ, List, Option, Some, slice_get}
use Rattle.rs_core.specs.declared.messages.Message.{Message}
use Rattle.rs_model.specs.Sorts.{HasSort}
use Rattle.rs_model.specs.declared.graph.Arm.{Arm}
use Rattle.rs_model.specs.declared.graph.Role.{Role}
use Rattle.rs_model.specs.declared.machines.State.{State}
use Rattle.rs_model.specs.declared.machines.State.TheVariants.{Puts, Takes}
pub use Rattle.rs_monitor.specs.declared.acts.ProgramAct.{ProgramAct}
pub use Rattle.rs_monitor.specs.declared.acts.ProgramAct.TheVariants.{Sent, Received}

-- the role to which the message was sent, or from which it was received
abbrev pub peer_of : ProgramAct → Role
peer_of (Sent peer message) = peer
peer_of (Received peer message) = peer

-- the message that was sent or received
abbrev pub message_of : ProgramAct → Message
message_of (Sent peer message) = message
message_of (Received peer message) = message

-- a state that has such acts by these arms: for a send, one that puts to the act's peer; for a receive, one that takes from it
abbrev pub state_for : ProgramAct → List Arm → State
state_for (Sent peer message) arms = Puts peer arms
state_for (Received peer message) arms = Takes peer arms

-- the act is one of the state's, and leads to the state numbered next: the state sends to the act's peer, or receives from it,
-- and an arm that leads there has the message's label and a sort that the message's value has
pub record IsActOf (state : Option State) (act : ProgramAct) (next : ℕ) : Type 0 where
  pub arms : List Arm
  pub place : ℕ
  pub arm : Arm
  pub stands : state ≡ Some (state_for act arms)
  pub picks : slice_get arms place ≡ Some arm
  pub same_label : arm.label ≡ (message_of act).label
  pub has_sort : HasSort (message_of act).value arm.sort
  pub goes : arm.next ≡ next
