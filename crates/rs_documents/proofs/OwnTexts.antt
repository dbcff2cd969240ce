-- A machine's own text, its line or its table, is read again and is written again.
use Rattle.std.proofs.Common.{◌≡◌, ◌⊎◌, inl, inr, ℕ, ◌+◌, ◌≤◌, List, [], ◌∷◌, ◌++◌, length, drop, codes, true, refl, sym, ap, ◌∙◌, subst, append-nil, slice_get}
use Rattle.rs_bodies.proofs.GraphsAgain.{IsReadable, tree_spelt}
use Rattle.rs_bodies.proofs.Moved.{Moves}
use Rattle.rs_bodies.specs.Graph as graphs
use Rattle.rs_bodies.specs.Openings.{Opening, of_role}
use Rattle.rs_bodies.specs.Texts.{body_text, opening_text}
use Rattle.rs_bodies.specs.Trees as bodies
use Rattle.rs_bodies.specs.declared.dialects.Dialect.TheVariants.{Acts}
use Rattle.rs_documents.proofs.MachinesAgain.{Renumbers, fits_again, machine_again, machine_printed_again}
use Rattle.rs_documents.proofs.MoreNames.{AreAmong, all_known, grown_same, name_there, number_at, number_known, number_there}
use Rattle.rs_documents.proofs.PartsAgain.{Begins, IsPrinted, begun, behind_text}
use Rattle.rs_documents.proofs.TablesAgain.{table_again, table_printed_again}
use Rattle.rs_documents.specs.Again.{labels_of_own_text, machine_by, number_among}
use Rattle.rs_documents.specs.Canonical.{CanBeWritten, IsOwnText, IsLine, IsTable}
use Rattle.rs_documents.specs.Parts.{NextTokenIs, machine_parts}
use Rattle.rs_machines.proofs.Canonical.{canonical_text_is_there, written}
use Rattle.rs_machines.specs.Canonical.{IsCanonicalMachineText, IsMachineTextShaped}
use Rattle.rs_machines.specs.Enough.{AreEnoughFor}
use Rattle.rs_machines.specs.Kinds as of_lines
use Rattle.rs_machines.specs.Spells.{SpellsMachine}
use Rattle.rs_machines.specs.Texts.{machine_text}
use Rattle.rs_machines.specs.Trees as machine_trees
use Rattle.rs_model.specs.Data.{Machine_data, Names_data}
use Rattle.rs_model.specs.declared.limits.TheConstants.{MOST_LABELS, MOST_ROLES}
use Rattle.rs_tables.proofs.Again as tables
use Rattle.rs_tables.proofs.Spelt.{one_spelling}
use Rattle.rs_tables.specs.Canonical.{tree_of}
use Rattle.rs_tables.specs.Machines.{labels_of_rows, machine_of_table, names_of}
use Rattle.rs_tables.specs.Printable.{IsTabled}
use Rattle.rs_tables.specs.Spells.{SpellsTable}
use Rattle.rs_tables.specs.Tables.{rows_from, table_of}
use Rattle.rs_tables.specs.Trees.{TableTree}
use Rattle.rs_text.specs.Lexing.{next_lexeme}
use Rattle.rs_text.specs.NamePlaces.{name_at}
use Rattle.rs_text.specs.Names.{names_with, number_or, place_of}
use Rattle.rs_text.specs.Signs.{Sign, plain, finish}
use Rattle.rs_text.specs.Sound.{IsSound}

-- ---- lines

-- what may stand behind a line ends a recursion name
ends_machines : (sign : Sign) (text : List ℕ) → Begins sign text → bodies.ends_a_name Acts sign ≡ true
ends_machines finish text b = refl
ends_machines (plain word) text b = refl
ends_machines _ text b = absurd b

line_begins : (o : Opening Acts) (b : List ℕ) → (rest : List ℕ) × (opening_text Acts o b ≡ codes "machine " ++ rest)
line_begins (of_role r) b = (r ++ (codes ": " ++ b), refl)

line_known : (names : Names_data) (machine : Machine_data) (line : List ℕ) → IsSound names → IsMachineTextShaped machine → AreEnoughFor names machine
    → (c : IsCanonicalMachineText names machine line) → AreAmong (graphs.labels_of Acts c.tree.body) names.labels
line_known names machine line sound shaped enough c =
    let w : IsReadable of_lines.machines names names machine c.tree = written names machine c.tree shaped sound enough c.canonical in
    all_known (graphs.labels_of Acts c.tree.body) names.labels (ap (λ (z : Names_data). z.labels) w.names_are)

line_is_read : (names : Names_data) (machine : Machine_data) (line : List ℕ) → IsSound names → IsMachineTextShaped machine → AreEnoughFor names machine
    → (c : IsCanonicalMachineText names machine line)
    → (bytes : List ℕ) (at : ℕ) (old : Names_data) (behind : List ℕ) (sign : Sign) (number : ℕ → ℕ) → drop at bytes ≡ line ++ behind → Begins sign behind
    → NextTokenIs bytes (at + length line) sign → old.roles ≡ names.roles → length (names_with old.labels (graphs.labels_of Acts c.tree.body)) ≤ MOST_LABELS
    → Renumbers number names.labels (names_with old.labels (graphs.labels_of Acts c.tree.body)) (graphs.labels_of Acts c.tree.body)
    → SpellsMachine bytes at old (record { roles = old.roles; labels = names_with old.labels (graphs.labels_of Acts c.tree.body) }) (machine_by number machine) (next_lexeme bytes (at + length line)).from
line_is_read names machine line sound shaped enough c bytes at old behind sign number parts b stands roles few f =
    let t : machine_trees.MachineTree = c.tree in
    let w : IsReadable of_lines.machines names names machine t = written names machine t shaped sound enough c.canonical in
    let e : line ≡ machine_text t = c.whole in
    let ended : bodies.ends_a_name Acts (next_lexeme bytes (at + length line)).sign ≡ true = ap (bodies.ends_a_name Acts) stands ∙ ends_machines sign behind b in
    let spelt = tree_spelt of_lines.machines bytes at old t behind w.words (fits_again old names t w.fits roles few) (subst (λ (z : List ℕ). drop at bytes ≡ z ++ behind) e parts)
    (λ _. subst (λ (z : List ℕ). bodies.ends_a_name Acts (next_lexeme bytes (at + length z)).sign ≡ true) e ended) in
    subst (λ (z : List ℕ). SpellsMachine bytes at old (of_lines.names_of old t) (machine_by number machine) (next_lexeme bytes (at + length z)).from) (sym e)
    (subst (λ (z : Machine_data). SpellsMachine bytes at old (of_lines.names_of old t) z (next_lexeme bytes (at + length (machine_text t))).from)
    (sym (machine_again old names machine t number w.graph_is w.names_are roles f)) spelt)

line_is_printed : (names : Names_data) (machine : Machine_data) (line : List ℕ) → IsSound names → IsMachineTextShaped machine → AreEnoughFor names machine
    → (c : IsCanonicalMachineText names machine line)
    → IsPrinted machine_parts machine_by names machine line (graphs.labels_of Acts c.tree.body)
line_is_printed names machine line sound shaped enough c = record {
  known = line_known names machine line sound shaped enough c;
  word = codes "machine";
  opens = inl refl;
  begins = (let b = line_begins c.tree.opening (body_text Acts c.tree.body ++ codes "\n") in (b.0, refl, c.whole ∙ b.1));
  role = λ number. refl;
  reads = λ bytes at old behind sign number parts b stands roles few f. inl (line_is_read names machine line sound shaped enough c bytes at old behind sign number parts b stands roles few f);
}

line_stays : (names : Names_data) (machine : Machine_data) (line : List ℕ) (number : ℕ → ℕ) → IsSound names → IsMachineTextShaped machine → AreEnoughFor names machine
    → (c : IsCanonicalMachineText names machine line) → Renumbers number names.labels names.labels (graphs.labels_of Acts c.tree.body) → machine_by number machine ≡ machine
line_stays names machine line number sound shaped enough c f =
    let labels : List (List ℕ) = graphs.labels_of Acts c.tree.body in
    let w : IsReadable of_lines.machines names names machine c.tree = written names machine c.tree shaped sound enough c.canonical in
    let same : names_with names.labels labels ≡ names.labels = ap (λ (z : Names_data). z.labels) w.names_are in
    machine_again names names machine c.tree number w.graph_is w.names_are refl (λ l a. f l a ∙ ap (λ (z : List (List ℕ)). number_or (place_of l z)) (sym same)) ∙ w.graph_is

-- ---- tables

table_back : (names : Names_data) (machine : Machine_data) → IsSound names → IsTabled names machine → length names.labels ≤ MOST_LABELS → machine_of_table names (tree_of names machine) ≡ machine
table_back names machine sound t few =
    let tree : TableTree = tree_of names machine in
    let text : List ℕ = table_of names machine in
    let until : ℕ = (next_lexeme text (0 + length text)).from in
    let same : names_of names tree ≡ names = tables.no_new_labels names machine sound t in
    let parts : drop 0 text ≡ text ++ [] = sym (append-nil text) in
    let spelt = tables.read_with_older names names machine text 0 [] sound t refl (subst (λ (z : Names_data). length z.labels ≤ MOST_LABELS) (sym same) few) parts in
    let again = tables.read_again names names machine text 0 [] sound t few same parts in
    let one = one_spelling names (names_of names tree) names text 0 until until (machine_of_table (names_of names tree) tree) machine spelt again in
    ap (λ (z : Names_data). machine_of_table z tree) (sym same) ∙ one.1

table_known : (names : Names_data) (machine : Machine_data) → IsSound names → IsTabled names machine → AreAmong (labels_of_rows (tree_of names machine).rows) names.labels
table_known names machine sound t = all_known (labels_of_rows (tree_of names machine).rows) names.labels (ap (λ (z : Names_data). z.labels) (tables.no_new_labels names machine sound t))

-- the machine with other numbers is what its table spells with other names
table_by : (names new : Names_data) (machine : Machine_data) (number : ℕ → ℕ) → IsSound names → IsTabled names machine → length names.labels ≤ MOST_LABELS → new.roles ≡ names.roles
    → Renumbers number names.labels new.labels (labels_of_rows (tree_of names machine).rows) → machine_by number machine ≡ machine_of_table new (tree_of names machine)
table_by names new machine number sound t few roles f =
    ap (machine_by number) (sym (table_back names machine sound t few)) ∙ table_again names new (tree_of names machine) number roles f

table_is_printed : (names : Names_data) (machine : Machine_data) → IsSound names → IsTabled names machine → length names.labels ≤ MOST_LABELS
    → IsPrinted machine_parts machine_by names machine (table_of names machine) (labels_of_rows (tree_of names machine).rows)
table_is_printed names machine sound t bounded = record {
  known = table_known names machine sound t;
  word = codes "table";
  opens = inr refl;
  begins = (name_at names.roles machine.role.0 ++ codes " {" ++ 10 ∷ (rows_from names 0 machine.states ++ codes "}" ++ 10 ∷ []), refl, refl);
  role = λ number. refl;
  reads = λ bytes at old behind sign number parts b stands roles few f.
      let new : Names_data = names_of old (tree_of names machine) in
      inr (subst (λ (z : Machine_data). SpellsTable bytes at old new z (next_lexeme bytes (at + length (table_of names machine))).from)
      (sym (table_by names new machine number sound t bounded roles f)) (tables.read_with_older old names machine bytes at behind sound t roles few parts));
}

table_stays : (names : Names_data) (machine : Machine_data) (number : ℕ → ℕ) → IsSound names → IsTabled names machine → length names.labels ≤ MOST_LABELS
    → Renumbers number names.labels names.labels (labels_of_rows (tree_of names machine).rows) → machine_by number machine ≡ machine
table_stays names machine number sound t few f = table_by names names machine number sound t few refl f ∙ table_back names machine sound t few

-- ---- either

-- what isn't text-shaped has a table
table_there : (names : Names_data) (machine : Machine_data) → (IsMachineTextShaped machine → ⊥) → IsMachineTextShaped machine ⊎ IsTabled names machine → IsTabled names machine
table_there names machine unshaped (inl shaped) = absurd (unshaped shaped)
table_there names machine unshaped (inr tabled) = tabled

pub own_is_printed : (names : Names_data) (machine : Machine_data) (text : List ℕ) → IsSound names → length names.labels ≤ MOST_LABELS → CanBeWritten names machine
    → (own : IsOwnText names machine text) → IsPrinted machine_parts machine_by names machine text (labels_of_own_text names machine text own)
own_is_printed names machine text sound few w (IsLine line shaped c) = line_is_printed names machine line sound shaped w.enough c
own_is_printed names machine text sound few w (IsTable unshaped) = table_is_printed names machine sound (table_there names machine unshaped w.shaped) few

pub own_stays : (names : Names_data) (machine : Machine_data) (text : List ℕ) (number : ℕ → ℕ) → IsSound names → length names.labels ≤ MOST_LABELS → CanBeWritten names machine
    → (own : IsOwnText names machine text) → Renumbers number names.labels names.labels (labels_of_own_text names machine text own) → machine_by number machine ≡ machine
own_stays names machine text number sound few w (IsLine line shaped c) f = line_stays names machine line number sound shaped w.enough c f
own_stays names machine text number sound few w (IsTable unshaped) f = table_stays names machine number sound (table_there names machine unshaped w.shaped) few f

-- ---- written again

-- names of labels in the place of these
pub record AreOthers (names : Names_data) (others : List (List ℕ)) : Type 0 where
  pub these_sound : IsSound names
  pub those_sound : IsSound (record { roles = names.roles; labels = others })
  pub few_roles : length names.roles ≤ MOST_ROLES
  pub these_few : length names.labels ≤ MOST_LABELS
  pub those_few : length others ≤ MOST_LABELS

-- a body of acts reads to the machine with other numbers too
still_shaped : (names : Names_data) (others : List (List ℕ)) (machine : Machine_data) (line : List ℕ) → AreOthers names others → IsMachineTextShaped machine → AreEnoughFor names machine
    → (c : IsCanonicalMachineText names machine line) → AreAmong (graphs.labels_of Acts c.tree.body) others → IsMachineTextShaped (machine_by (number_among names.labels others) machine)
still_shaped names others machine line o shaped enough c among =
    let labels : List (List ℕ) = graphs.labels_of Acts c.tree.body in
    let old : Names_data = record { roles = names.roles; labels = others } in
    let number : ℕ → ℕ = number_among names.labels others in
    let same : names_with others labels ≡ others = grown_same labels others among in
    let here : drop 0 line ≡ line ++ [] = sym (append-nil line) in
    let next = begun finish line (0 + length line) [] refl (behind_text line 0 line [] here) in
    let known = line_known names machine line o.these_sound shaped enough c in
    let numbers : Renumbers number names.labels (names_with others labels) labels
    = λ l a. number_known names.labels others l (known l a) ∙ ap (λ (z : List (List ℕ)). number_or (place_of l z)) (sym same) in
    record {
      bytes = line;
      at = 0;
      old = old;
      sound = o.those_sound;
      few_roles = o.few_roles;
      few_labels = o.those_few;
      new = record { roles = names.roles; labels = names_with others labels };
      until = (next_lexeme line (0 + length line)).from;
      spells = line_is_read names machine line o.these_sound shaped enough c line 0 old [] finish number here refl next.stands refl
          (subst (λ (z : List (List ℕ)). length z ≤ MOST_LABELS) (sym same) o.those_few) numbers;
    }

-- and none does where none did
still_unshaped : (names : Names_data) (others : List (List ℕ)) (machine : Machine_data) → AreOthers names others → AreAmong others names.labels → IsTabled names machine
    → AreEnoughFor (record { roles = names.roles; labels = others }) (machine_by (number_among names.labels others) machine) → AreAmong (labels_of_rows (tree_of names machine).rows) others
    → (IsMachineTextShaped machine → ⊥) → IsMachineTextShaped (machine_by (number_among names.labels others) machine) → ⊥
still_unshaped names others machine o known t enough among unshaped shaped =
    let other : Names_data = record { roles = names.roles; labels = others } in
    let tree : TableTree = tree_of names machine in
    let number : ℕ → ℕ = number_among names.labels others in
    let back : ℕ → ℕ = number_among others names.labels in
    let changed : Machine_data = machine_by number machine in
    let line = canonical_text_is_there other changed shaped enough in
    let those = line_known other changed line.0 o.those_sound shaped enough line.1 in
    let turned : AreOthers other names.labels = record { these_sound = o.those_sound; those_sound = o.these_sound; few_roles = o.few_roles; these_few = o.those_few; those_few = o.these_few } in
    let here : IsMachineTextShaped (machine_by back changed) = still_shaped other names.labels changed line.0 turned shaped enough line.1 (λ l a. known l (those l a)) in
    let these = table_known names machine o.these_sound t in
    let there : changed ≡ machine_of_table other tree = table_by names other machine number o.these_sound t o.these_few refl (λ l a. number_known names.labels others l (these l a)) in
    let same : machine_by back changed ≡ machine = ap (machine_by back) there ∙ table_again other names tree back refl (λ l a. number_known others names.labels l (among l a))
    ∙ table_back names machine o.these_sound t o.these_few in
    unshaped (subst IsMachineTextShaped same here)

pub own_printed_again : (names : Names_data) (others : List (List ℕ)) (machine : Machine_data) (text : List ℕ) → AreOthers names others → AreAmong others names.labels → CanBeWritten names machine
    → CanBeWritten (record { roles = names.roles; labels = others }) (machine_by (number_among names.labels others) machine) → (own : IsOwnText names machine text)
    → AreAmong (labels_of_own_text names machine text own) others
    → IsOwnText (record { roles = names.roles; labels = others }) (machine_by (number_among names.labels others) machine) text
own_printed_again names others machine text o known w v (IsLine line shaped c) among =
    let number : ℕ → ℕ = number_among names.labels others in
    let moves : Moves number names.labels others (graphs.labels_of Acts c.tree.body)
    = λ l i a e. ap (slice_get others) (number_at names.labels others l i e) ∙ number_there others l (among l a) in
    IsLine line (still_shaped names others machine line o shaped w.enough c among) (machine_printed_again names others number machine line c moves)
own_printed_again names others machine text o known w v (IsTable unshaped) among =
    let other : Names_data = record { roles = names.roles; labels = others } in
    let number : ℕ → ℕ = number_among names.labels others in
    let still = still_unshaped names others machine o known (table_there names machine unshaped w.shaped) v.enough among unshaped in
    subst (IsOwnText other (machine_by number machine)) (table_printed_again names others machine number (λ k a. name_there others (name_at names.labels k) (among (name_at names.labels k) a)))
    (IsTable still)
