-- Steps: where an act leads from a state, or the first reason why it isn't one of the state's acts.
use Rattle.std.specs.Prelude.{ℕ, Bool, List, [], ◌∷◌, Option, Some, None, Result, Ok, Err, if◌then◌else◌, ◌==◌, ◌&&◌}
use Rattle.std.specs.List.{list_any}
use Rattle.rs_model.specs.Sorts.{fits}
use Rattle.rs_model.specs.declared.graph.Arm.{Arm}
use Rattle.rs_model.specs.declared.graph.Label.{Label}
use Rattle.rs_model.specs.declared.graph.Role.{Role}
use Rattle.rs_model.specs.declared.machines.State.{State}
use Rattle.rs_model.specs.declared.machines.State.TheVariants.{Done, Puts, Takes}
use Rattle.rs_model.specs.declared.values.Value.{Value}
use Rattle.rs_monitor.specs.Acts.{ProgramAct, Sent, Received}
use Rattle.rs_monitor.specs.declared.acts.Refusal.{Refusal}
use Rattle.rs_monitor.specs.declared.acts.Refusal.TheVariants.{AnotherPeer, StateReceives, StateSends, NoSuchLabel, AnotherSort, HasEnded}

-- the first arm with that label whose sort the value has
abbrev pub arm_for : List Arm → Label → Value → Option Arm
arm_for [] label value = None
arm_for (a ∷ arms) label value = if (a.label.0 == label.0) && fits value a.sort then Some a else arm_for arms label value

-- an arm has that label
abbrev pub has_label : List Arm → Label → Bool
has_label arms label = list_any (λ a. a.label.0 == label.0) arms

-- why no arm was found: one has the label, or none has
abbrev pub refusal_by : Bool → Refusal
refusal_by labelled = if labelled then AnotherSort else NoSuchLabel

-- the state to which the arm leads that was found; without one, why there is none
abbrev pub next_by_arm : Option Arm → Bool → Result ℕ Refusal
next_by_arm (Some arm) labelled = Ok arm.next
next_by_arm None labelled = Err (refusal_by labelled)

-- the state to which the message leads by these arms
abbrev pub next_by_arms : List Arm → Label → Value → Result ℕ Refusal
next_by_arms arms label value = next_by_arm (arm_for arms label value) (has_label arms label)

-- the refusal that stands if both are the same role, else that the peer is another one
abbrev pub refused_by_peer : Role → Role → Refusal → Refusal
refused_by_peer other peer refusal = if other.0 == peer.0 then refusal else AnotherPeer

-- the state to which the message leads, if both are the same role
abbrev pub next_by_peer : Role → Role → List Arm → Label → Value → Result ℕ Refusal
next_by_peer other peer arms label value = if other.0 == peer.0 then next_by_arms arms label value else Err AnotherPeer

-- the state to which the act leads from that state, or the first reason why it doesn't
abbrev pub next_after : Option State → ProgramAct → Result ℕ Refusal
next_after None act = Err HasEnded
next_after (Some Done) act = Err HasEnded
next_after (Some (Puts other arms)) (Sent peer message) = next_by_peer other peer arms message.label message.value
next_after (Some (Puts other arms)) (Received peer message) = Err (refused_by_peer other peer StateSends)
next_after (Some (Takes other arms)) (Sent peer message) = Err (refused_by_peer other peer StateReceives)
next_after (Some (Takes other arms)) (Received peer message) = next_by_peer other peer arms message.label message.value
