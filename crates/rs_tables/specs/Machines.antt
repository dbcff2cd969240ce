-- Headline: the names and the machine that a tree spells.
use Rattle.std.specs.Prelude.{ℕ, List, [], ◌∷◌, map}
use Rattle.std.specs.List.{flat_map}
use Rattle.rs_model.specs.Data.{Machine_data, Names_data}
use Rattle.rs_model.specs.declared.graph.Arm.{Arm}
use Rattle.rs_model.specs.declared.machines.State.{State}
use Rattle.rs_model.specs.declared.machines.State.TheVariants as state
use Rattle.rs_bodies.specs.Dialects.{state_by_mark}
use Rattle.rs_text.specs.Arms.{sort_or_unit}
use Rattle.rs_text.specs.KnownNames.{label_named, role_named, with_new_labels}
use Rattle.rs_tables.specs.Trees.{ArmTree, RowTree, end_row, choice_row, TableTree}

-- the labels of arms, in order of text
abbrev pub labels_of_arms : List ArmTree → List (List ℕ)
labels_of_arms arms = map (λ a. a.label) arms

-- the labels of a row
abbrev pub labels_of_row : RowTree → List (List ℕ)
labels_of_row end_row = []
labels_of_row (choice_row peer m first later) = labels_of_arms (first ∷ later)

-- the labels of rows
abbrev pub labels_of_rows : List RowTree → List (List ℕ)
labels_of_rows rows = flat_map labels_of_row rows

-- the peer of a row, where it has one
abbrev pub peers_of_row : RowTree → List (List ℕ)
peers_of_row end_row = []
peers_of_row (choice_row peer m first later) = peer ∷ []

-- the peers of rows
abbrev pub peers_of_rows : List RowTree → List (List ℕ)
peers_of_rows rows = flat_map peers_of_row rows

-- the names with the labels of a tree
abbrev pub names_of : Names_data → TableTree → Names_data
names_of old t = with_new_labels old (labels_of_rows t.rows)

-- the arm that a tree spells, with these names
abbrev pub arm_of_tree : Names_data → ArmTree → Arm
arm_of_tree names a = record { label = label_named names a.label; sort = sort_or_unit a.sort; next = a.next }

-- the state that a row spells, with these names
abbrev pub state_of_row : Names_data → RowTree → State
state_of_row names end_row = state.Done
state_of_row names (choice_row peer m first later) = state_by_mark m (role_named names peer) (map (arm_of_tree names) (first ∷ later))

-- the machine that a table spells, with these names: a state a row, the first of them the start
abbrev pub machine_of_table : Names_data → TableTree → Machine_data
machine_of_table names t = record { role = role_named names t.role; states = map (state_of_row names) t.rows; start = 0 }
