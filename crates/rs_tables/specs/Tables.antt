-- Public: the table that a machine is printed as.
use Rattle.std.specs.Prelude.{ℕ, suc, List, [], ◌∷◌, ◌++◌, codes}
use Rattle.std.specs.Fmt.{decimal}
use Rattle.std.specs.List.{flat_map}
use Rattle.rs_model.specs.Data.{Machine_data, Names_data}
use Rattle.rs_model.specs.declared.graph.Arm.{Arm}
use Rattle.rs_model.specs.declared.graph.Role.{Role}
use Rattle.rs_model.specs.declared.machines.State.{State}
use Rattle.rs_model.specs.declared.machines.State.TheVariants as state
use Rattle.rs_text.specs.NamePlaces.{name_at}
use Rattle.rs_text.specs.Shown.{shown_sort, shown_text}

-- LABEL "(" [ sort ] ") " next: the unit is written as nothing
abbrev pub arm_in_table : Names_data → Arm → List ℕ
arm_in_table names a = name_at names.labels a.label.0 ++ codes "(" ++ shown_text (shown_sort a.sort) ++ codes ") " ++ decimal a.next

-- an arm behind another arm
abbrev pub later_arm_in_table : Names_data → Arm → List ℕ
later_arm_in_table names a = codes ", " ++ arm_in_table names a

-- arms are separated by a comma and a space
abbrev pub arms_in_table : Names_data → List Arm → List ℕ
arms_in_table names [] = []
arms_in_table names (a ∷ later) = arm_in_table names a ++ flat_map (later_arm_in_table names) later

-- PEER ( "!" | "?" ) "{" arms "}"
abbrev pub choice_in_table : Names_data → Role → List ℕ → List Arm → List ℕ
choice_in_table names peer mark arms = name_at names.roles peer.0 ++ mark ++ codes "{" ++ arms_in_table names arms ++ codes "}"

-- ! sends, ? receives
abbrev pub state_in_table : Names_data → State → List ℕ
state_in_table names state.Done = codes "end"
state_in_table names (state.Puts peer arms) = choice_in_table names peer (codes "!") arms
state_in_table names (state.Takes peer arms) = choice_in_table names peer (codes "?") arms

-- a line a state: its number, a space and the state
abbrev pub row : Names_data → ℕ → State → List ℕ
row names n s = decimal n ++ codes " " ++ state_in_table names s ++ 10 ∷ []

-- the lines of states, the first of which has the number n
abbrev pub rows_from : Names_data → ℕ → List State → List ℕ
rows_from names n [] = []
rows_from names n (s ∷ later) = row names n s ++ rows_from names (suc n) later

-- "table" ROLE "{", the lines of all states, and "}"
abbrev pub table_of : Names_data → Machine_data → List ℕ
table_of names m = codes "table " ++ name_at names.roles m.role.0 ++ codes " {" ++ 10 ∷ (rows_from names 0 m.states ++ codes "}" ++ 10 ∷ [])
