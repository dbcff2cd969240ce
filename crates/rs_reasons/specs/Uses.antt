-- Public: which receives of its own a machine never makes, by the nodes of its derivation.
use Rattle.std.specs.Prelude.{ℕ, List, [], map, Bool, false, ◌&&◌, ◌==◌, slice_get, Option, Some, None}
use Rattle.std.specs.List.{list_any}
use Rattle.rs_derive.specs.Data.{DNode_data}
use Rattle.rs_model.specs.declared.graph.Arm.{Arm}
use Rattle.rs_model.specs.declared.graph.Label.{Label}
use Rattle.rs_model.specs.declared.graph.Role.{Role}
use Rattle.rs_model.specs.declared.machines.Act.{Act}
use Rattle.rs_model.specs.declared.machines.Act.TheVariants as act
use Rattle.rs_model.specs.declared.machines.State.{State}
use Rattle.rs_model.specs.declared.machines.State.TheVariants.{Done, Puts, Takes}
use Rattle.rs_prefix.specs.Search.{earliest}
use Rattle.rs_prefix.specs.declared.earliest.ActKind.TheVariants.{Receive}
use Rattle.rs_prefix.specs.declared.earliest.Found.{Found}
use Rattle.rs_prefix.specs.declared.earliest.Found.TheVariants.{At, Blocked, Absent}

-- some node stands at the state
abbrev pub is_visited : List DNode_data → ℕ → Bool
is_visited nodes state = list_any (λ (n : DNode_data). n.state == state) nodes

-- the label of the act, where there is one
abbrev pub label_of_act : Option Act → Option Label
label_of_act None = None
label_of_act (Some (act.Puts peer label sort)) = Some label
label_of_act (Some (act.Takes peer label sort)) = Some label

-- the label of the act that was found among those that are owed
abbrev pub label_found : List Act → Found → Option Label
label_found pending (At place) = label_of_act (slice_get pending place)
label_found pending (Blocked place) = None
label_found pending Absent = None

-- the label of the receive from the peer that is made next: of the earliest that is owed, where nothing owed holds it up
abbrev pub label_next : List Act → Role → Option Label
label_next pending peer = label_found pending (earliest pending Receive peer)

-- there is a label, and it is this one
abbrev pub is_label : Option Label → Label → Bool
is_label None label = false
is_label (Some other) label = label.0 == other.0

-- the node stands at the state, which receives from the peer, and takes the label there
abbrev pub takes : ℕ → Role → Label → DNode_data → Bool
takes state peer label n = (n.state == state) && is_label (label_next n.pending peer) label

-- of each arm of a receive whether some node takes its label at the state; other states have no such arms
abbrev pub arms_taken : List DNode_data → ℕ → State → List Bool
arms_taken nodes state Done = []
arms_taken nodes state (Puts peer arms) = []
arms_taken nodes state (Takes peer arms) = map (λ (a : Arm). list_any (takes state peer a.label) nodes) arms
