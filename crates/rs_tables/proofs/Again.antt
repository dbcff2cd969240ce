-- The printed table of a machine spells it.
use Rattle.std.proofs.Common.{◌≡◌, ℕ, ◌+◌, ◌<◌, ◌≤◌, List, [], ◌∷◌, ◌++◌, length, map, drop, true, if◌then◌else◌, refl, sym, ap, ◌∙◌, subst, length-append, length-drop, arith}
use Rattle.std.proofs.lemmas.List.{length-map}
use Rattle.std.proofs.lemmas.List.Elements.{All-head, All-tail}
use Rattle.std.proofs.lemmas.List.Folds.{list_all-append}
use Rattle.std.specs.List.{All, list_all}
use Rattle.rs_model.specs.Data.{Machine_data, Names_data}
use Rattle.rs_model.specs.declared.graph.Arm.{Arm}
use Rattle.rs_model.specs.declared.graph.Label.{Label}
use Rattle.rs_model.specs.declared.graph.Role.{Role}
use Rattle.rs_model.specs.declared.limits.TheConstants.{MOST_LABELS}
use Rattle.rs_model.specs.declared.machines.State.{State}
use Rattle.rs_model.specs.declared.machines.State.TheVariants as state
use Rattle.rs_model.specs.declared.values.Sort.{Sort}
use Rattle.rs_bodies.specs.declared.dialects.Mark.{Mark}
use Rattle.rs_bodies.specs.declared.dialects.Mark.TheVariants as mark
use Rattle.rs_text.specs.Arms.{sort_or_unit}
use Rattle.rs_text.specs.Lexemes.{Lexeme}
use Rattle.rs_text.specs.Lexing.{Lexed, next_lexeme}
use Rattle.rs_text.specs.Names.{names_with, is_among, number_or}
use Rattle.rs_text.specs.NamePlaces.{name_at}
use Rattle.rs_text.specs.Shown.{shown_sort}
use Rattle.rs_text.specs.Sound.{IsSound}
use Rattle.rs_text.proofs.Arms.{sort_same}
use Rattle.rs_text.proofs.Basics.{both, two_true}
use Rattle.rs_text.proofs.Nexts.{exists, are_lexed, lexed_are}
use Rattle.rs_text.proofs.Written.{written_cut}
use Rattle.rs_tables.specs.Canonical.{tree_of_arm, tree_of_choice, tree_of_state, tree_of}
use Rattle.rs_tables.specs.Machines.{labels_of_arms, labels_of_row, labels_of_rows, peers_of_row, peers_of_rows, names_of, arm_of_tree, state_of_row}
use Rattle.rs_text.specs.KnownNames.{role_named, label_named}
use Rattle.rs_bodies.specs.Dialects.{state_by_mark}
use Rattle.rs_tables.specs.Machines.{machine_of_table}
use Rattle.rs_tables.specs.Printable.{IsArmTabled, IsChoiceTabled, IsStateTabled, IsTabled}
use Rattle.rs_tables.specs.Spells.{Fits, SpellsTable}
use Rattle.rs_tables.specs.Tables.{table_of}
use Rattle.rs_tables.specs.Trees.{table_signs}
use Rattle.rs_tables.proofs.NamesByPlace.{place_at, there}
use Rattle.rs_tables.proofs.Printed.{written}
use Rattle.rs_tables.proofs.Standings.{Known}

-- ---- the tree spells the machine

role_back : (names : Names_data) (p : Role) → IsSound names → p.0 < length names.roles → role_named names (name_at names.roles p.0) ≡ p
role_back names p sound h = let role : ℕ → Role = λ n. record { 0 = n } in ap (λ z. role (number_or z)) (place_at names.roles p.0 sound.roles_differ h)

label_back : (names : Names_data) (l : Label) → IsSound names → l.0 < length names.labels → label_named names (name_at names.labels l.0) ≡ l
label_back names l sound h = let label : ℕ → Label = λ n. record { 0 = n } in ap (λ z. label (number_or z)) (place_at names.labels l.0 sound.labels_differ h)

arm_back : (names : Names_data) (a : Arm) → IsSound names → IsArmTabled names a → arm_of_tree names (tree_of_arm names a) ≡ a
arm_back names a sound h =
    let arm : Label → Sort → Arm = λ l s. record { label = l; sort = s; next = a.next } in
    ap (λ z. arm z (sort_or_unit (shown_sort a.sort))) (label_back names a.label sound h.label) ∙ ap (λ z. arm a.label z) (sort_same a.sort)

arms_back : (names : Names_data) (arms : List Arm) → IsSound names → All (IsArmTabled names) arms → map (arm_of_tree names) (map (tree_of_arm names) arms) ≡ arms
arms_back names [] sound h = refl
arms_back names (a ∷ arms) sound h =
    ap (λ z. z ∷ map (arm_of_tree names) (map (tree_of_arm names) arms)) (arm_back names a sound (All-head (IsArmTabled names) a arms h))
    ∙ ap (λ z. a ∷ z) (arms_back names arms sound (All-tail (IsArmTabled names) a arms h))

choice_back : (names : Names_data) (p : Role) (m : Mark) (arms : List Arm) → IsSound names → IsChoiceTabled names p arms → state_of_row names (tree_of_choice names p m arms) ≡ state_by_mark m p arms
choice_back names p m [] sound h = absurd (let some = h.some in omega arith)
choice_back names p m (a ∷ arms) sound h =
    ap (λ z. state_by_mark m z (map (arm_of_tree names) (map (tree_of_arm names) (a ∷ arms)))) (role_back names p sound h.has_name)
    ∙ ap (λ z. state_by_mark m p z) (arms_back names (a ∷ arms) sound h.each)

state_back : (names : Names_data) (s : State) → IsSound names → IsStateTabled names s → state_of_row names (tree_of_state names s) ≡ s
state_back names state.Done sound h = refl
state_back names (state.Puts p arms) sound h = choice_back names p mark.Puts arms sound h
state_back names (state.Takes p arms) sound h = choice_back names p mark.Takes arms sound h

states_back : (names : Names_data) (states : List State) → IsSound names → All (IsStateTabled names) states → map (state_of_row names) (map (tree_of_state names) states) ≡ states
states_back names [] sound h = refl
states_back names (s ∷ states) sound h =
    ap (λ z. z ∷ map (state_of_row names) (map (tree_of_state names) states)) (state_back names s sound (All-head (IsStateTabled names) s states h))
    ∙ ap (λ z. s ∷ z) (states_back names states sound (All-tail (IsStateTabled names) s states h))

machine_back : (names : Names_data) (m : Machine_data) → IsSound names → IsTabled names m → machine_of_table names (tree_of names m) ≡ m
machine_back names m sound t =
    let machine : Role → List State → ℕ → Machine_data = λ r s n. record { role = r; states = s; start = n } in
    ap (λ z. machine z (map (state_of_row names) (map (tree_of_state names) m.states)) 0) (role_back names m.role sound t.role)
    ∙ ap (λ z. machine m.role z 0) (states_back names m.states sound t.states) ∙ ap (λ z. machine m.role m.states z) (sym t.start)

-- ---- names that are known

arms_known : (names : Names_data) (arms : List Arm) → IsSound names → All (IsArmTabled names) arms → Known names.labels (labels_of_arms (map (tree_of_arm names) arms))
arms_known names [] sound h = refl
arms_known names (a ∷ arms) sound h =
    let one = All-head (IsArmTabled names) a arms h in
    two_true (is_among (name_at names.labels a.label.0) names.labels) _ (there names.labels a.label.0 sound.labels_differ one.label)
    (arms_known names arms sound (All-tail (IsArmTabled names) a arms h))

choice_known : (names : Names_data) (p : Role) (m : Mark) (arms : List Arm) → IsSound names → IsChoiceTabled names p arms
    → Known names.roles (peers_of_row (tree_of_choice names p m arms)) × Known names.labels (labels_of_row (tree_of_choice names p m arms))
choice_known names p m [] sound h = (refl, refl)
choice_known names p m (a ∷ arms) sound h =
    (two_true (is_among (name_at names.roles p.0) names.roles) true (there names.roles p.0 sound.roles_differ h.has_name) refl, arms_known names (a ∷ arms) sound h.each)

state_known : (names : Names_data) (s : State) → IsSound names → IsStateTabled names s
    → Known names.roles (peers_of_row (tree_of_state names s)) × Known names.labels (labels_of_row (tree_of_state names s))
state_known names state.Done sound h = (refl, refl)
state_known names (state.Puts p arms) sound h = choice_known names p mark.Puts arms sound h
state_known names (state.Takes p arms) sound h = choice_known names p mark.Takes arms sound h

known_both : (names xs ys : List (List ℕ)) → Known names xs → Known names ys → Known names (xs ++ ys)
known_both names xs ys h k = list_all-append (λ x. is_among x names) xs ys ∙ two_true (list_all (λ x. is_among x names) xs) (list_all (λ x. is_among x names) ys) h k

states_known : (names : Names_data) (states : List State) → IsSound names → All (IsStateTabled names) states
    → Known names.roles (peers_of_rows (map (tree_of_state names) states)) × Known names.labels (labels_of_rows (map (tree_of_state names) states))
states_known names [] sound h = (refl, refl)
states_known names (s ∷ states) sound h =
    let a = state_known names s sound (All-head (IsStateTabled names) s states h) in
    let b = states_known names states sound (All-tail (IsStateTabled names) s states h) in (
      known_both names.roles (peers_of_row (tree_of_state names s)) (peers_of_rows (map (tree_of_state names) states)) a.0 b.0,
      known_both names.labels (labels_of_row (tree_of_state names s)) (labels_of_rows (map (tree_of_state names) states)) a.1 b.1,
    )

grown_same : (xs names : List (List ℕ)) → Known names xs → names_with names xs ≡ names
grown_same [] names h = refl
grown_same (x ∷ xs) names h =
    let k = both (is_among x names) (list_all (λ y. is_among y names) xs) h in
    ap (λ z. names_with (if z then names else names ++ x ∷ []) xs) k.0 ∙ grown_same xs names k.1

-- the printed table has no new labels
pub no_new_labels : (names : Names_data) (m : Machine_data) → IsSound names → IsTabled names m → names_of names (tree_of names m) ≡ names
no_new_labels names m sound t =
    ap (λ z. record { roles = names.roles; labels = z }) (grown_same (labels_of_rows (map (tree_of_state names) m.states)) names.labels (states_known names m.states sound t.states).1)

fits : (old names : Names_data) (m : Machine_data) → IsSound names → IsTabled names m → old.roles ≡ names.roles → length (names_of old (tree_of names m)).labels ≤ MOST_LABELS → Fits old (tree_of names m)
fits old names m sound t roles few =
    let size = length-map m.states (tree_of_state names) in
    let some = t.some in
    let all = t.bounded in
    record {
      formed = omega arith;
      roles = subst (λ (z : List (List ℕ)). list_all (λ x. is_among x z) (name_at names.roles m.role.0 ∷ peers_of_rows (map (tree_of_state names) m.states)) ≡ true) (sym roles)
          (two_true (is_among (name_at names.roles m.role.0) names.roles) _ (there names.roles m.role.0 sound.roles_differ t.role) (states_known names m.states sound t.states).0);
      labels = few;
      rows = omega arith;
    }

-- ---- and so it spells the machine

spells_with : (ls : List Lexeme) (bytes : List ℕ) (at : ℕ) (old names : Names_data) (m : Machine_data) (rest : List ℕ) → IsSound names → IsTabled names m → Fits old (tree_of names m)
    → drop at bytes ≡ table_of names m ++ rest → Lexed bytes (at + length (table_of names m)) ls
    → SpellsTable bytes at old (names_of old (tree_of names m)) (machine_of_table (names_of old (tree_of names m)) (tree_of names m)) (next_lexeme bytes (at + length (table_of names m))).from
spells_with [] bytes at old names m rest sound t f parts lexed = absurd lexed
spells_with (l ∷ ls) bytes at old names m rest sound t f parts lexed =
    let c = written_cut bytes at (table_signs (tree_of names m)) (table_of names m) rest (l ∷ ls) parts (written names m rest sound t) lexed in
    record {
      tree = tree_of names m;
      lexemes = c.cut;
      behind = l;
      others = ls;
      tokens = lexed_are bytes (c.cut ++ l ∷ ls) at c.lexed;
      spelt = c.signs_are;
      fits = f;
      names_are = refl;
      machine_is = refl;
      goes_on = ap (λ (x : Lexeme). x.from) (sym lexed.0);
    }

reaches : (bytes : List ℕ) (at : ℕ) (text rest : List ℕ) → 0 < length text → drop at bytes ≡ text ++ rest → at + length text ≤ length bytes
reaches bytes at text rest some parts =
    let size : length (drop at bytes) ≡ length text + length rest = rw parts (length-append text rest) in
    let all = length-drop at bytes in
    omega arith

-- with any older names that have its roles, where the labels stay few
pub read_with_older : (old names : Names_data) (m : Machine_data) (bytes : List ℕ) (at : ℕ) (rest : List ℕ) → IsSound names → IsTabled names m → old.roles ≡ names.roles
    → length (names_of old (tree_of names m)).labels ≤ MOST_LABELS
    → drop at bytes ≡ table_of names m ++ rest
    → SpellsTable bytes at old (names_of old (tree_of names m)) (machine_of_table (names_of old (tree_of names m)) (tree_of names m)) (next_lexeme bytes (at + length (table_of names m))).from
read_with_older old names m bytes at rest sound t roles few parts =
    let ls = exists bytes (at + length (table_of names m)) (reaches bytes at (table_of names m) rest (omega arith) parts) in
    spells_with ls.0 bytes at old names m rest sound t (fits old names m sound t roles few) parts (are_lexed bytes ls.0 (at + length (table_of names m)) ls.1)

pub read_again : (old names : Names_data) (m : Machine_data) (bytes : List ℕ) (at : ℕ) (rest : List ℕ) → IsSound names → IsTabled names m → length names.labels ≤ MOST_LABELS
    → names_of old (tree_of names m) ≡ names → drop at bytes ≡ table_of names m ++ rest
    → SpellsTable bytes at old names m (next_lexeme bytes (at + length (table_of names m))).from
read_again old names m bytes at rest sound t few e parts =
    let few' : length (names_of old (tree_of names m)).labels ≤ MOST_LABELS = subst (λ (z : Names_data). length z.labels ≤ MOST_LABELS) (sym e) few in
    let until : ℕ = (next_lexeme bytes (at + length (table_of names m))).from in
    let spelt = read_with_older old names m bytes at rest sound t (ap (λ (z : Names_data). z.roles) e) few' parts in
    subst (λ (z : Machine_data). SpellsTable bytes at old names z until) (machine_back names m sound t)
    (subst (λ (z : Names_data). SpellsTable bytes at old z (machine_of_table z (tree_of names m)) until) e spelt)
