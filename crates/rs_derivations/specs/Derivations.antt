-- Public: the names and the derivation that a tree spells.
use Rattle.std.specs.Prelude.{ℕ, zero, suc, List, [], map, slice_index_or}
use Rattle.std.specs.List.{flat_map}
use Rattle.rs_model.specs.Data.{Names_data}
use Rattle.rs_model.specs.declared.graph.Label.{Label}
use Rattle.rs_model.specs.declared.graph.Role.{Role}
use Rattle.rs_model.specs.declared.machines.Act.{Act}
use Rattle.rs_model.specs.declared.machines.Act.TheVariants.{Puts, Takes}
use Rattle.rs_model.specs.declared.values.Sort.{Sort}
use Rattle.rs_prefix.specs.declared.earliest.ActKind.{ActKind}
use Rattle.rs_prefix.specs.declared.earliest.ActKind.TheVariants as act
use Rattle.rs_derive.specs.Data.{DNode_data, Derivation_data}
use Rattle.rs_text.specs.Arms.{sort_or_unit}
use Rattle.rs_text.specs.KnownNames.{label_named, role_named, with_new_labels}
use Rattle.rs_derivations.specs.declared.formats.Format.{Format}
use Rattle.rs_derivations.specs.declared.formats.Format.TheVariants.{One, Two}
use Rattle.rs_derivations.specs.Trees.{ActTree, ListsTree, PendingTree, NodeTree, DerivationTree}

-- the acts of the list with that number; 0 stands for no acts
abbrev pub acts_of_number : {A : Type 0} → List (List A) → ℕ → List A
acts_of_number lists zero = []
acts_of_number lists (suc k) = slice_index_or lists k []

-- the pending acts that a node has after these lists
abbrev pub acts_of_pending : (f : Format) → ListsTree f → PendingTree f → List ActTree
acts_of_pending One none acts = acts
acts_of_pending Two lists n = acts_of_number lists n

-- the lists of acts that a text writes out: in format 1 one a node
abbrev pub written_lists : (f : Format) → ListsTree f → List (NodeTree f) → List (List ActTree)
written_lists One none nodes = map (λ n. n.pending) nodes
written_lists Two lists nodes = lists

-- all acts of a derivation's text, in order of text
abbrev pub acts_of : DerivationTree → List ActTree
acts_of t = flat_map (λ acts. acts) (written_lists t.format t.lists t.nodes)

-- the labels of acts
abbrev pub labels_of_acts : List ActTree → List (List ℕ)
labels_of_acts acts = map (λ a. a.label) acts

-- the peers of acts
abbrev pub peers_of_acts : List ActTree → List (List ℕ)
peers_of_acts acts = map (λ a. a.peer) acts

-- the names with the labels of a tree
abbrev pub names_of : Names_data → DerivationTree → Names_data
names_of old t = with_new_labels old (labels_of_acts (acts_of t))

-- a send or a receive
abbrev pub act_of_kind : ActKind → Role → Label → Sort → Act
act_of_kind act.Send peer label sort = Puts peer label sort
act_of_kind act.Receive peer label sort = Takes peer label sort

-- the act that a tree spells, with these names
abbrev pub act_of_tree : Names_data → ActTree → Act
act_of_tree names a = act_of_kind a.kind (role_named names a.peer) (label_named names a.label) (sort_or_unit a.sort)

-- the node that a tree spells after these lists, with these names
abbrev pub node_of_tree : Names_data → (f : Format) → ListsTree f → NodeTree f → DNode_data
node_of_tree names f lists t = record { state = t.state; pending = map (act_of_tree names) (acts_of_pending f lists t.pending); above = t.above; rank = t.rank; next = t.next }

-- the derivation that a tree spells, with these names
abbrev pub derivation_of : Names_data → DerivationTree → Derivation_data
derivation_of names t = record { role = role_named names t.role; bound = t.bound; nodes = map (node_of_tree names t.format t.lists) t.nodes }
