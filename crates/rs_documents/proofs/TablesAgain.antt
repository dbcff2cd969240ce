-- The table of a machine with other numbers for labels.
use Rattle.std.proofs.Common.{◌≡◌, ℕ, suc, List, [], ◌∷◌, ◌++◌, codes, map, refl, sym, ap, ◌∙◌}
use Rattle.std.specs.Fmt.{decimal}
use Rattle.std.specs.List.{flat_map}
use Rattle.rs_bodies.specs.declared.dialects.Mark.{Mark}
use Rattle.rs_bodies.specs.declared.dialects.Mark.TheVariants as mark
use Rattle.rs_documents.proofs.DerivationsAgain.{IsNamedAlike}
use Rattle.rs_documents.proofs.MachinesAgain.{Renumbers}
use Rattle.rs_documents.proofs.MoreNames.{first_among, later_among, front_among, back_among}
use Rattle.rs_documents.specs.Again.{arm_by, state_by, machine_by}
use Rattle.rs_model.specs.Data.{Machine_data, Names_data}
use Rattle.rs_model.specs.declared.graph.Arm.{Arm}
use Rattle.rs_model.specs.declared.graph.Role.{Role}
use Rattle.rs_model.specs.declared.machines.State.{State}
use Rattle.rs_model.specs.declared.machines.State.TheVariants.{Done, Puts, Takes}
use Rattle.rs_tables.specs.Canonical.{tree_of, tree_of_arm, tree_of_choice, tree_of_state}
use Rattle.rs_tables.specs.Machines.{arm_of_tree, labels_of_arms, labels_of_row, labels_of_rows, machine_of_table, state_of_row}
use Rattle.rs_text.specs.KnownNames.{role_named}
use Rattle.rs_bodies.specs.Dialects.{state_by_mark}
use Rattle.rs_tables.specs.Tables.{arm_in_table, arms_in_table, choice_in_table, later_arm_in_table, row, rows_from, state_in_table, table_of}
use Rattle.rs_tables.specs.Trees.{ArmTree, RowTree, TableTree, end_row, choice_row}
use Rattle.rs_text.specs.Arms.{sort_or_unit}
use Rattle.rs_text.specs.NamePlaces.{name_at}
use Rattle.rs_text.specs.Names.{number_or, place_of}
use Rattle.rs_text.specs.Shown.{shown_sort, shown_text}

-- ---- the machine that is read

abbrev arm_at : ArmTree → ℕ → Arm
arm_at a n = record { label = record { 0 = n }; sort = sort_or_unit a.sort; next = a.next }

arms_again : (names new : Names_data) (arms : List ArmTree) (number : ℕ → ℕ) → Renumbers number names.labels new.labels (labels_of_arms arms)
    → map (arm_by number) (map (arm_of_tree names) arms) ≡ map (arm_of_tree new) arms
arms_again names new [] number f = refl
arms_again names new (a ∷ arms) number f =
    ap (λ (z : ℕ). arm_at a z ∷ map (arm_by number) (map (arm_of_tree names) arms)) (f a.label (first_among a.label (labels_of_arms arms)))
    ∙ ap (λ (z : List Arm). arm_of_tree new a ∷ z) (arms_again names new arms number (λ l h. f l (later_among l a.label (labels_of_arms arms) h)))

choice_is : (number : ℕ → ℕ) (m : Mark) (peer : Role) (arms : List Arm) → state_by number (state_by_mark m peer arms) ≡ state_by_mark m peer (map (arm_by number) arms)
choice_is number mark.Puts peer arms = refl
choice_is number mark.Takes peer arms = refl

row_again : (names new : Names_data) (t : RowTree) (number : ℕ → ℕ) → new.roles ≡ names.roles → Renumbers number names.labels new.labels (labels_of_row t)
    → state_by number (state_of_row names t) ≡ state_of_row new t
row_again names new end_row number roles f = refl
row_again names new (choice_row peer m first later) number roles f =
    let arms : List ArmTree = first ∷ later in
    choice_is number m (role_named names peer) (map (arm_of_tree names) arms) ∙ ap (λ (z : List Arm). state_by_mark m (role_named names peer) z) (arms_again names new arms number f)
    ∙ ap (λ (z : List (List ℕ)). state_by_mark m (record { 0 = number_or (place_of peer z) }) (map (arm_of_tree new) arms)) (sym roles)

rows_again : (names new : Names_data) (rows : List RowTree) (number : ℕ → ℕ) → new.roles ≡ names.roles → Renumbers number names.labels new.labels (labels_of_rows rows)
    → map (state_by number) (map (state_of_row names) rows) ≡ map (state_of_row new) rows
rows_again names new [] number roles f = refl
rows_again names new (t ∷ rows) number roles f =
    ap (λ (z : State). z ∷ map (state_by number) (map (state_of_row names) rows))
    (row_again names new t number roles (λ l h. f l (front_among l (labels_of_row t) (labels_of_rows rows) h)))
    ∙ ap (λ (z : List State). state_of_row new t ∷ z) (rows_again names new rows number roles (λ l h. f l (back_among l (labels_of_row t) (labels_of_rows rows) h)))

abbrev machine_with : List ℕ → List (List ℕ) → List State → Machine_data
machine_with role roles states = record { role = record { 0 = number_or (place_of role roles) }; states = states; start = 0 }

pub table_again : (names new : Names_data) (t : TableTree) (number : ℕ → ℕ) → new.roles ≡ names.roles → Renumbers number names.labels new.labels (labels_of_rows t.rows)
    → machine_by number (machine_of_table names t) ≡ machine_of_table new t
table_again names new t number roles f =
    ap (λ (z : List State). machine_with t.role names.roles z) (rows_again names new t.rows number roles f)
    ∙ ap (λ (z : List (List ℕ)). machine_with t.role z (map (state_of_row new) t.rows)) (sym roles)

-- ---- and it is written as it was

abbrev with_others : Names_data → List (List ℕ) → Names_data
with_others names others = record { roles = names.roles; labels = others }

written_arm : (names : Names_data) (others : List (List ℕ)) (number : ℕ → ℕ) (a : Arm) (labels : List (List ℕ)) → IsNamedAlike number names.labels others ((tree_of_arm names a).label ∷ labels)
    → arm_in_table (with_others names others) (arm_by number a) ≡ arm_in_table names a
written_arm names others number a labels f =
    ap (λ (z : List ℕ). z ++ codes "(" ++ shown_text (shown_sort a.sort) ++ codes ") " ++ decimal a.next) (f a.label.0 (first_among (name_at names.labels a.label.0) labels))

written_later : (names : Names_data) (others : List (List ℕ)) (number : ℕ → ℕ) (arms : List Arm) → IsNamedAlike number names.labels others (labels_of_arms (map (tree_of_arm names) arms))
    → flat_map (later_arm_in_table (with_others names others)) (map (arm_by number) arms) ≡ flat_map (later_arm_in_table names) arms
written_later names others number [] f = refl
written_later names others number (a ∷ arms) f =
    let labels : List (List ℕ) = labels_of_arms (map (tree_of_arm names) arms) in
    ap (λ (z : List ℕ). (codes ", " ++ z) ++ flat_map (later_arm_in_table (with_others names others)) (map (arm_by number) arms)) (written_arm names others number a labels f)
    ∙ ap (λ (z : List ℕ). later_arm_in_table names a ++ z) (written_later names others number arms (λ k h. f k (later_among (name_at names.labels k) (tree_of_arm names a).label labels h)))

written_choice : (names : Names_data) (others : List (List ℕ)) (number : ℕ → ℕ) (peer : Role) (m : Mark) (sign : List ℕ) (arms : List Arm)
    → IsNamedAlike number names.labels others (labels_of_row (tree_of_choice names peer m arms))
    → choice_in_table (with_others names others) peer sign (map (arm_by number) arms) ≡ choice_in_table names peer sign arms
written_choice names others number peer m sign [] f = refl
written_choice names others number peer m sign (a ∷ arms) f =
    let new : Names_data = with_others names others in
    let labels : List (List ℕ) = labels_of_arms (map (tree_of_arm names) arms) in
    let first : arm_in_table new (arm_by number a) ≡ arm_in_table names a = written_arm names others number a labels f in
    let later : flat_map (later_arm_in_table new) (map (arm_by number) arms) ≡ flat_map (later_arm_in_table names) arms
    = written_later names others number arms (λ k h. f k (later_among (name_at names.labels k) (tree_of_arm names a).label labels h)) in
    let all : arms_in_table new (map (arm_by number) (a ∷ arms)) ≡ arms_in_table names (a ∷ arms)
    = ap (λ (z : List ℕ). z ++ flat_map (later_arm_in_table new) (map (arm_by number) arms)) first ∙ ap (λ (z : List ℕ). arm_in_table names a ++ z) later in
    ap (λ (z : List ℕ). name_at names.roles peer.0 ++ sign ++ codes "{" ++ z ++ codes "}") all

written_state : (names : Names_data) (others : List (List ℕ)) (number : ℕ → ℕ) (s : State) → IsNamedAlike number names.labels others (labels_of_row (tree_of_state names s))
    → state_in_table (with_others names others) (state_by number s) ≡ state_in_table names s
written_state names others number Done f = refl
written_state names others number (Puts peer arms) f = written_choice names others number peer mark.Puts (codes "!") arms f
written_state names others number (Takes peer arms) f = written_choice names others number peer mark.Takes (codes "?") arms f

written_rows : (names : Names_data) (others : List (List ℕ)) (number : ℕ → ℕ) (n : ℕ) (states : List State)
    → IsNamedAlike number names.labels others (labels_of_rows (map (tree_of_state names) states))
    → rows_from (with_others names others) n (map (state_by number) states) ≡ rows_from names n states
written_rows names others number n [] f = refl
written_rows names others number n (s ∷ states) f =
    let mine : List (List ℕ) = labels_of_row (tree_of_state names s) in
    let more : List (List ℕ) = labels_of_rows (map (tree_of_state names) states) in
    ap (λ (z : List ℕ). (decimal n ++ codes " " ++ z ++ 10 ∷ []) ++ rows_from (with_others names others) (suc n) (map (state_by number) states))
    (written_state names others number s (λ k h. f k (front_among (name_at names.labels k) mine more h)))
    ∙ ap (λ (z : List ℕ). row names n s ++ z) (written_rows names others number (suc n) states (λ k h. f k (back_among (name_at names.labels k) mine more h)))

pub table_printed_again : (names : Names_data) (others : List (List ℕ)) (m : Machine_data) (number : ℕ → ℕ) → IsNamedAlike number names.labels others (labels_of_rows (tree_of names m).rows)
    → table_of (record { roles = names.roles; labels = others }) (machine_by number m) ≡ table_of names m
table_printed_again names others m number f =
    ap (λ (z : List ℕ). codes "table " ++ name_at names.roles m.role.0 ++ codes " {" ++ 10 ∷ (z ++ codes "}" ++ 10 ∷ [])) (written_rows names others number 0 m.states f)
