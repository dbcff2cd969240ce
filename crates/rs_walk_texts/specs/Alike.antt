-- Public: labels of the machine that may be misspelt ones of the protocol.
use Rattle.std.specs.Prelude.{◌≡◌, ℕ, ◌≤◌, List, [], ◌++◌, codes, map, slice_get, Bool, false, ◌==◌, ◌&&◌, if◌then◌else◌, is_some, Option, Some, None}
use Rattle.std.specs.List.{find, flat_map, list_any}
use Rattle.rs_derive.specs.Moves.{Spot, arm_of}
use Rattle.rs_derive.specs.Rules.{arms_of}
use Rattle.rs_explain.specs.declared.explaining.Ending.{Ending}
use Rattle.rs_explain.specs.declared.explaining.Ending.TheVariants.{Blocked}
use Rattle.rs_explain.specs.declared.obstacles.Obstacle.TheVariants as told
use Rattle.rs_model.specs.Data.{Names_data}
use Rattle.rs_model.specs.FirstFailed.{or_later}
use Rattle.rs_model.specs.declared.graph.Arm.{Arm}
use Rattle.rs_model.specs.declared.graph.Label.{Label}
use Rattle.rs_model.specs.declared.graph.Node.{Node}
use Rattle.rs_model.specs.declared.graph.Node.TheVariants.{Finished, Talk}
use Rattle.rs_model.specs.declared.graph.Role.{Role}
use Rattle.rs_model.specs.declared.machines.Act.{Act}
use Rattle.rs_model.specs.declared.machines.Act.TheVariants as act
use Rattle.rs_model.specs.declared.machines.State.{State}
use Rattle.rs_model.specs.declared.machines.State.TheVariants.{Puts, Takes}
use Rattle.rs_text.specs.NamePlaces.{name_at}
use Rattle.rs_walk_texts.specs.Data.{WalkSource_data}
use Rattle.rs_walk_texts.specs.Nearness.{distance}
use Rattle.rs_walk_texts.specs.Walks.{state_at}
use Rattle.rs_walk_texts.specs.declared.alike.LabelPair.{LabelPair}

-- a label of the machine, and one of the protocol
abbrev pub label_pair : Label → Label → LabelPair
label_pair own theirs = record { own = own; theirs = theirs }

-- how far the names of both are from each other, where they are near
abbrev pub label_distance : Names_data → LabelPair → Option ℕ
label_distance names pair = distance (name_at names.labels pair.own.0) (name_at names.labels pair.theirs.0)

-- the distance is this one
abbrev pub is_this : ℕ → Option ℕ → Bool
is_this far None = false
is_this far (Some d) = d == far

-- the node is a talk from the sender to the receiver that has the label
abbrev pub sends_label : Role → Role → Label → Node → Bool
sends_label sender receiver label Finished = false
sends_label sender receiver label (Talk s r arms) = (s.0 == sender.0) && ((r.0 == receiver.0) && is_some (arm_of arms label))

-- the protocol sends the label from the sender to the receiver
abbrev pub is_known : List Node → Role → Role → Label → Bool
is_known nodes sender receiver label = list_any (sends_label sender receiver label) nodes

-- it sends the label between the role and the peer, the way that the role's state goes
abbrev pub is_known_there : List Node → Role → Option State → Label → Bool
is_known_there nodes role (Some (Puts peer arms)) label = is_known nodes role peer label
is_known_there nodes role (Some (Takes peer arms)) label = is_known nodes peer role label
is_known_there nodes role _ label = false

-- how far the machine's label is from the other, where it may be this one misspelt: the protocol doesn't send it that way, and
-- the names of both are near each other
abbrev pub slip_distance : WalkSource_data → Spot → LabelPair → Option ℕ
slip_distance source p pair =
    if is_known_there source.protocol.nodes source.machine.role (state_at source p) pair.own then None else label_distance source.names pair

-- it may be misspelt, and is as far as this from the other
abbrev pub is_slip : WalkSource_data → Spot → ℕ → LabelPair → Bool
is_slip source p far pair = is_this far (slip_distance source p pair)

-- the label beside that of each arm of a node, where it is a talk from the sender to the receiver
abbrev pub pairs_with : Role → Role → Label → Node → List LabelPair
pairs_with sender receiver own Finished = []
pairs_with sender receiver own (Talk s r arms) = if (s.0 == sender.0) && (r.0 == receiver.0) then map (λ a. label_pair own a.label) arms else []

-- the label of an act
abbrev pub label_of : Act → Label
label_of (act.Puts peer label sort) = label
label_of (act.Takes peer label sort) = label

-- the label beside each that the protocol sends from the sender to the receiver
abbrev pub pairs_between : List Node → Role → Role → Label → List LabelPair
pairs_between nodes sender receiver own = flat_map (pairs_with sender receiver own) nodes

-- the label of the arm, where there is one, beside each that the protocol sends from the machine's role to the peer
abbrev pub pairs_to : WalkSource_data → Role → Option Arm → List LabelPair
pairs_to source peer None = []
pairs_to source peer (Some a) = pairs_between source.protocol.nodes source.machine.role peer a.label

-- the same of the arm at the place of a state that sends
abbrev pub pairs_sent : WalkSource_data → Option State → ℕ → List LabelPair
pairs_sent source (Some (Puts peer arms)) place = pairs_to source peer (slice_get arms place)
pairs_sent source _ place = []

-- the label of each arm beside that of the act that is owed
abbrev pub pairs_owed : List Arm → Option Act → List LabelPair
pairs_owed arms None = []
pairs_owed arms (Some a) = map (λ b. label_pair b.label (label_of a)) arms

-- the pairs of which one may explain that the machine has no move
abbrev pub pairs_at : WalkSource_data → Spot → Ending → List LabelPair
pairs_at source p (Blocked (told.UnknownSend place)) = pairs_sent source (state_at source p) place
pairs_at source p (Blocked (told.SendBeforeSend place)) = pairs_owed (arms_of (state_at source p)) (slice_get p.pending place)
pairs_at source p (Blocked (told.ReceiveBeforeReceive place)) = pairs_owed (arms_of (state_at source p)) (slice_get p.pending place)
pairs_at source p _ = []

-- of the pairs of which the machine's label may be misspelt the first of the least distance
abbrev pub nearest : WalkSource_data → Spot → Ending → Option LabelPair
nearest source p ending = or_later (find (is_slip source p 0) (pairs_at source p ending)) (find (is_slip source p 1) (pairs_at source p ending))

-- the pair stands there, has the distance, and none has a lesser one, nor has one before it the same
pub record IsFirstOfLeast (distances : LabelPair → Option ℕ) (pairs : List LabelPair) (pair : LabelPair) : Type 0 where
  pub place : ℕ
  pub stands : slice_get pairs place ≡ Some pair
  pub far : ℕ
  pub far_is : distances pair ≡ Some far
  pub least : (i d : ℕ) (q : LabelPair) → slice_get pairs i ≡ Some q → distances q ≡ Some d → far ≤ d
  pub first : (i : ℕ) (q : LabelPair) → slice_get pairs i ≡ Some q → distances q ≡ Some far → place ≤ i

-- `nearest: own for theirs`, a line, where there is such a pair
abbrev pub nearest_text : Names_data → Option LabelPair → List ℕ
nearest_text names None = []
nearest_text names (Some pair) = codes "nearest: " ++ name_at names.labels pair.own.0 ++ codes " for " ++ name_at names.labels pair.theirs.0 ++ codes "\n"
