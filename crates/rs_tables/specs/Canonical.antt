-- Public: the tree of a printed table.
use Rattle.std.specs.Prelude.{List, [], ◌∷◌, map}
use Rattle.rs_model.specs.Data.{Machine_data, Names_data}
use Rattle.rs_model.specs.declared.graph.Arm.{Arm}
use Rattle.rs_model.specs.declared.graph.Role.{Role}
use Rattle.rs_model.specs.declared.machines.State.{State}
use Rattle.rs_model.specs.declared.machines.State.TheVariants as state
use Rattle.rs_bodies.specs.declared.dialects.Mark.{Mark}
use Rattle.rs_bodies.specs.declared.dialects.Mark.TheVariants as mark
use Rattle.rs_text.specs.NamePlaces.{name_at}
use Rattle.rs_text.specs.Shown.{shown_sort}
use Rattle.rs_tables.specs.Trees.{ArmTree, RowTree, end_row, choice_row, TableTree}

-- the name of the label; the unit isn't shown
abbrev pub tree_of_arm : Names_data → Arm → ArmTree
tree_of_arm names a = record { label = name_at names.labels a.label.0; sort = shown_sort a.sort; next = a.next }

-- the name of the peer, and the arms; what has none is no row of its own
abbrev pub tree_of_choice : Names_data → Role → Mark → List Arm → RowTree
tree_of_choice names peer m [] = end_row
tree_of_choice names peer m (a ∷ later) = choice_row (name_at names.roles peer.0) m (tree_of_arm names a) (map (tree_of_arm names) later)

-- the row of a state
abbrev pub tree_of_state : Names_data → State → RowTree
tree_of_state names state.Done = end_row
tree_of_state names (state.Puts peer arms) = tree_of_choice names peer mark.Puts arms
tree_of_state names (state.Takes peer arms) = tree_of_choice names peer mark.Takes arms

-- the tree that the printed table has
abbrev pub tree_of : Names_data → Machine_data → TableTree
tree_of names m = record { role = name_at names.roles m.role.0; rows = map (tree_of_state names) m.states }
