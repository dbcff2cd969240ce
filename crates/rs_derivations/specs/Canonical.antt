-- Public: the canonical text of a derivation.
use Rattle.std.specs.Prelude.{ℕ, List, map}
use Rattle.rs_model.specs.Data.{Names_data}
use Rattle.rs_model.specs.declared.graph.Label.{Label}
use Rattle.rs_model.specs.declared.graph.Role.{Role}
use Rattle.rs_model.specs.declared.machines.Act.{Act}
use Rattle.rs_model.specs.declared.machines.Act.TheVariants.{Puts, Takes}
use Rattle.rs_model.specs.declared.values.Sort.{Sort}
use Rattle.rs_prefix.specs.declared.earliest.ActKind.{ActKind}
use Rattle.rs_prefix.specs.declared.earliest.ActKind.TheVariants as act
use Rattle.rs_derive.specs.Data.{DNode_data, Derivation_data}
use Rattle.rs_text.specs.NamePlaces.{name_at}
use Rattle.rs_text.specs.Shown.{shown_sort}
use Rattle.rs_derivations.specs.declared.formats.Format.TheVariants.{Two}
use Rattle.rs_derivations.specs.PendingLists.{lists_of, list_number}
use Rattle.rs_derivations.specs.Trees.{ActTree, NodeTree, DerivationTree}
use Rattle.rs_derivations.specs.Texts.{derivation_text}

-- the names of the peer and the label; the unit isn't shown
abbrev pub shown_act : Names_data → ActKind → Role → Label → Sort → ActTree
shown_act names kind peer label sort = record { peer = name_at names.roles peer.0; kind = kind; label = name_at names.labels label.0; sort = shown_sort sort }

-- the tree of an act
abbrev pub tree_of_act : Names_data → Act → ActTree
tree_of_act names (Puts peer label sort) = shown_act names act.Send peer label sort
tree_of_act names (Takes peer label sort) = shown_act names act.Receive peer label sort

-- the tree of a node, where these lists stand before it
abbrev pub tree_of_node : List (List Act) → DNode_data → NodeTree Two
tree_of_node lists n = record { state = n.state; pending = list_number lists n.pending; above = n.above; rank = n.rank; next = n.next }

-- the tree that the canonical text has: format 2, each list of pending acts once
abbrev pub tree_of : Names_data → Derivation_data → DerivationTree
tree_of names d = record {
  role = name_at names.roles d.role.0;
  format = Two;
  bound = d.bound;
  lists = map (λ acts. map (tree_of_act names) acts) (lists_of d);
  nodes = map (tree_of_node (lists_of d)) d.nodes;
}

-- the text of it
abbrev pub canonical_text : Names_data → Derivation_data → List ℕ
canonical_text names d = derivation_text (tree_of names d)
