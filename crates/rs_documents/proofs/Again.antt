-- The canonical text of a document is read again, and is printed as itself.
use Rattle.std.proofs.Common.{◌≡◌, ◌⊎◌, inl, inr, ℕ, suc, ◌+◌, ◌≤◌, List, [], ◌∷◌, ◌++◌, length, map, drop, codes, true, Option, Some, None, option_map, refl, sym, ap, ◌∙◌, subst, arith, append-nil}
use Rattle.std.proofs.Common.{slice_get}
use Rattle.std.specs.List.{flat_map}
use Rattle.rs_derivations.proofs.Again.{no_new_labels, read_with_older, spells_the_derivation}
use Rattle.rs_derivations.specs.Canonical.{canonical_text, tree_of}
use Rattle.rs_derivations.specs.Derivations.{acts_of, derivation_of, labels_of_acts, names_of}
use Rattle.rs_derivations.specs.Numbers.{AreSmall}
use Rattle.rs_derivations.specs.Printable.{IsPrintable}
use Rattle.rs_derivations.specs.Spells.{SpellsDerivation}
use Rattle.rs_derivations.specs.Texts.{bound_text, format_text, lists_text, nodes_text}
use Rattle.rs_derivations.specs.declared.formats.Format.TheVariants.{Two}
use Rattle.rs_derivations.specs.Trees.{DerivationTree}
use Rattle.rs_derive.specs.Data.{Derivation_data}
use Rattle.rs_documents.specs.Again.{CanBeReadAgain, HasAllLabels, derivation_by, labels_of_lines, labels_of_own, labels_of_own_text, labels_of_text, machine_by, number_among, document_by_labels}
use Rattle.rs_documents.specs.Canonical.{AreCanonicalMachines, ArePrintable, AreShown, IsCanonicalDocument, derivations_text}
use Rattle.rs_documents.specs.Data.{Document_data}
use Rattle.rs_documents.specs.Documents.{SpellsDocument}
use Rattle.rs_documents.specs.Parts.{GoesOn, PartsRead, derivation_parts, machine_parts, no_parts}
use Rattle.rs_documents.proofs.CanShow.{few_names}
use Rattle.rs_documents.proofs.DerivationsAgain.{IsNamedAlike, derivation_again, derivation_printed_again}
use Rattle.rs_documents.proofs.FewLabels.{longer}
use Rattle.rs_documents.proofs.MachinesAgain.{Renumbers}
use Rattle.rs_documents.proofs.MoreNames.{AreAmong, all_known, back_among, either_among, front_among, grown_either, grown_new, grown_same, name_there, no_more, number_kept, number_known}
use Rattle.rs_documents.proofs.OneCanonical.{some_text}
use Rattle.rs_documents.proofs.OneDocument.{one_document}
use Rattle.rs_documents.proofs.OwnTexts.{AreOthers, own_is_printed, own_printed_again, own_stays}
use Rattle.rs_documents.proofs.PartKinds.{of_derivations, of_machines}
use Rattle.rs_documents.proofs.Parts.{good, row_of}
use Rattle.rs_documents.proofs.PartsAgain.{ArePrinted, Begins, IsPrinted, all_go_again, begun, behind_text, printed_begins, printed_known}
use Rattle.rs_documents.proofs.SpeltAgain.{spelt_again}
use Rattle.rs_documents.proofs.ProtocolsAgain.{all_are_first, front_again, front_printed_again, labels_known}
use Rattle.rs_global.specs.Canonical.{IsCanonicalProtocolText}
use Rattle.rs_global.specs.Spells.{SpellsProtocol}
use Rattle.rs_bodies.specs.Graph as graphs
use Rattle.rs_bodies.specs.Trees as bodies
use Rattle.rs_bodies.specs.declared.dialects.Dialect.TheVariants.{Talks}
use Rattle.rs_model.specs.Data.{Machine_data, Names_data}
use Rattle.rs_model.specs.declared.limits.TheConstants.{MOST_LABELS}
use Rattle.rs_text.proofs.Naming.{grown_append, grown_differ}
use Rattle.rs_text.specs.Lexing.{next_lexeme}
use Rattle.rs_text.specs.Names.{names_with, is_among, number_or, place_of, differ}
use Rattle.rs_text.specs.NamePlaces.{name_at}
use Rattle.rs_text.specs.Signs.{Sign, plain, finish}
use Rattle.rs_text.specs.Sound.{IsSound}

ends_protocols : (sign : Sign) (text : List ℕ) → Begins sign text → bodies.ends_a_name Talks sign ≡ true
ends_protocols finish text b = refl
ends_protocols (plain word) text b = refl
ends_protocols _ text b = absurd b

-- ---- machines

machines_are_printed : (names : Names_data) (machines : List (Option Machine_data)) (text : List ℕ) → IsSound names → length names.labels ≤ MOST_LABELS → AreShown names machines
    → (lines : AreCanonicalMachines names machines text)
    → ArePrinted machine_parts machine_by names machines text (labels_of_lines names machines text lines)
machines_are_printed names [] text sound few shown lines = (lines, refl)
machines_are_printed names (None ∷ machines) text sound few shown lines = machines_are_printed names machines text sound few shown.1 lines
machines_are_printed names (Some machine ∷ machines) text sound few shown lines = (
  lines.0,
  lines.1,
  labels_of_own_text names machine lines.0 lines.2,
  labels_of_lines names machines lines.1 lines.3,
  own_is_printed names machine lines.0 sound few shown.0 lines.2,
  machines_are_printed names machines lines.1 sound few shown.1 lines.3,
  lines.4,
  refl,
)

-- ---- derivations

derivation_is_printed : (names : Names_data) (d : Derivation_data) → IsSound names → IsPrintable names d → AreSmall d
    → IsPrinted derivation_parts derivation_by names d (canonical_text names d) (labels_of_acts (acts_of (tree_of names d)))
derivation_is_printed names d sound printable small =
    let tree : DerivationTree = tree_of names d in
    record {
      known = all_known (labels_of_acts (acts_of tree)) names.labels (ap (λ (z : Names_data). z.labels) (no_new_labels names d sound printable));
      word = codes "derivation";
      opens = refl;
      begins = ((tree.role ++ (format_text Two ++ bound_text d.bound)) ++ (lists_text Two tree.lists ++ (nodes_text Two 0 tree.nodes ++ codes "}\n")), refl, refl);
      role = λ number. refl;
      reads = λ bytes at old behind sign number parts b stands roles few f.
          let spelt = read_with_older old names d bytes at behind sound printable small roles few parts in
          subst (λ (z : Derivation_data). SpellsDerivation bytes at old (names_of old (tree_of names d)) z (next_lexeme bytes (at + length (canonical_text names d))).from)
          (sym (derivation_again names (names_of old (tree_of names d)) d number (spells_the_derivation names d sound printable) roles f)) spelt;
    }

derivations_are_printed : (names : Names_data) (derivations : List (Option Derivation_data)) → IsSound names → ArePrintable names derivations
    → ((k : ℕ) (d : Derivation_data) → slice_get derivations k ≡ Some (Some d) → AreSmall d)
    → ArePrinted derivation_parts derivation_by names derivations (derivations_text names derivations) (flat_map (labels_of_own names) derivations)
derivations_are_printed names [] sound printable small = (refl, refl)
derivations_are_printed names (None ∷ derivations) sound printable small = derivations_are_printed names derivations sound (λ k d e. printable (suc k) d e) (λ k d e. small (suc k) d e)
derivations_are_printed names (Some d ∷ derivations) sound printable small = (
  canonical_text names d,
  derivations_text names derivations,
  labels_of_acts (acts_of (tree_of names d)),
  flat_map (labels_of_own names) derivations,
  derivation_is_printed names d sound (printable 0 d refl) (small 0 d refl),
  derivations_are_printed names derivations sound (λ k x e. printable (suc k) x e) (λ k x e. small (suc k) x e),
  refl,
  refl,
)

-- ---- the labels of the text

-- the labels of the protocol, of the machines' lines and of the derivations' ones
abbrev first_of : (d : Document_data) (text : List ℕ) → IsCanonicalDocument d text → List (List ℕ)
first_of d text c = names_with [] (graphs.labels_of Talks c.protocol.tree.body)

abbrev lines_of : (d : Document_data) (text : List ℕ) → IsCanonicalDocument d text → List (List ℕ)
lines_of d text c = labels_of_lines d.names d.machines c.back c.machines

abbrev owns_of : Document_data → List (List ℕ)
owns_of d = flat_map (labels_of_own d.names) d.derivations

split_text : (d : Document_data) (text : List ℕ) (c : IsCanonicalDocument d text) → labels_of_text d text c ≡ names_with (names_with (first_of d text c) (lines_of d text c)) (owns_of d)
split_text d text c =
    grown_append (graphs.labels_of Talks c.protocol.tree.body) (lines_of d text c ++ owns_of d) [] ∙ grown_append (lines_of d text c) (owns_of d) (first_of d text c)

-- all are labels of the document
record LabelsKnown (d : Document_data) (text : List ℕ) (c : IsCanonicalDocument d text) : Type 0 where
  protocol : AreAmong (graphs.labels_of Talks c.protocol.tree.body) d.names.labels
  machines : AreAmong (lines_of d text c) d.names.labels
  derivations : AreAmong (owns_of d) d.names.labels

parts_known : (d : Document_data) (text : List ℕ) → CanBeReadAgain d → (c : IsCanonicalDocument d text) → LabelsKnown d text c
parts_known d text r c =
    let sound = r.shown.sound in
    record {
      protocol = labels_known d.names d.protocol c.front r.shown.shaped sound r.shown.enough c.protocol;
      machines = printed_known machine_parts machine_by d.names d.machines c.back (lines_of d text c) (machines_are_printed d.names d.machines c.back sound r.bounded r.shown.machines c.machines);
      derivations = printed_known derivation_parts derivation_by d.names d.derivations (derivations_text d.names d.derivations) (owns_of d)
          (derivations_are_printed d.names d.derivations sound r.shown.derivations r.small);
    }

text_known : (d : Document_data) (text : List ℕ) (c : IsCanonicalDocument d text) → LabelsKnown d text c → AreAmong (labels_of_text d text c) d.names.labels
text_known d text c k l a =
    let of_protocol : List (List ℕ) = graphs.labels_of Talks c.protocol.tree.body in
    let there : Type 0 = is_among l d.names.labels ≡ true in
    grown_either l (of_protocol ++ (lines_of d text c ++ owns_of d)) [] there a (λ e. absurd (cc e))
    (λ e. either_among l of_protocol (lines_of d text c ++ owns_of d) there e (k.protocol l) (λ f. either_among l (lines_of d text c) (owns_of d) there f (k.machines l) (k.derivations l)))

-- and so they are few
text_few : (d : Document_data) (text : List ℕ) → CanBeReadAgain d → (c : IsCanonicalDocument d text) → LabelsKnown d text c → length (labels_of_text d text c) ≤ MOST_LABELS
text_few d text r c k =
    let apart : differ (labels_of_text d text c) ≡ true = grown_differ (graphs.labels_of Talks c.protocol.tree.body ++ (lines_of d text c ++ owns_of d)) [] refl in
    let size = no_more (labels_of_text d text c) d.names.labels apart (text_known d text c k) in
    let few = r.bounded in
    omega (arith, size, few)

-- ---- the document is read again

abbrev doc_with : Document_data → (ℕ → ℕ) → List (List ℕ) → Document_data
doc_with d number labels = record {
  names = record { roles = d.names.roles; labels = labels };
  protocol = d.protocol;
  machines = map (option_map (machine_by number)) d.machines;
  derivations = map (option_map (derivation_by number)) d.derivations;
}

not_word : (own : Sign) (word : List ℕ) → (own ≡ plain (codes "derivation")) ⊎ (own ≡ finish) → (codes "derivation" ≡ word → ⊥) → own ≡ plain word → ⊥
not_word own word (inl e) other h = other (let clash : plain (codes "derivation") ≡ plain word = sym e ∙ h in cc clash)
not_word own word (inr e) other h = let clash : finish ≡ plain word = sym e ∙ h in cc clash

not_machine : (own : Sign) → (own ≡ plain (codes "derivation")) ⊎ (own ≡ finish) → (own ≡ plain (codes "machine")) ⊎ (own ≡ plain (codes "table")) → ⊥
not_machine own d (inl h) = not_word own (codes "machine") d (λ e. cc e) h
not_machine own d (inr h) = not_word own (codes "table") d (λ e. cc e) h

not_derivation : finish ≡ plain (codes "derivation") → ⊥
not_derivation e = cc e

by_parts : (d : Document_data) (text : List ℕ) → CanBeReadAgain d → (c : IsCanonicalDocument d text) (number : ℕ → ℕ)
    → length (names_with (names_with (first_of d text c) (lines_of d text c)) (owns_of d)) ≤ MOST_LABELS
    → Renumbers number d.names.labels (names_with (first_of d text c) (lines_of d text c)) (lines_of d text c)
    → Renumbers number d.names.labels (names_with (names_with (first_of d text c) (lines_of d text c)) (owns_of d)) (owns_of d)
    → SpellsDocument text (doc_with d number (names_with (names_with (first_of d text c) (lines_of d text c)) (owns_of d)))
by_parts d text r c number few machine_numbers derivation_numbers =
    let names : Names_data = d.names in
    let sound = r.shown.sound in
    let first : List (List ℕ) = first_of d text c in
    let lines : List (List ℕ) = lines_of d text c in
    let owns : List (List ℕ) = owns_of d in
    let tail : List ℕ = derivations_text names d.derivations in
    let back : List ℕ = c.back in
    let front : List ℕ = c.front in
    let machines = machines_are_printed names d.machines back sound r.bounded r.shown.machines c.machines in
    let derivations = derivations_are_printed names d.derivations sound r.shown.derivations r.small in
    let ends : tail ++ [] ≡ tail = append-nil tail in
    let begins2 = printed_begins derivation_parts derivation_by names d.derivations tail owns [] finish derivations refl in
    let begins2' : Begins begins2.own tail = subst (λ (z : List ℕ). Begins begins2.own z) ends begins2.begins in
    let begins1 = printed_begins machine_parts machine_by names d.machines back lines tail begins2.own machines begins2' in
    let at1 : ℕ = 0 + length front in
    let at2 : ℕ = at1 + length back in
    let at3 : ℕ = at2 + length tail in
    let here0 : drop 0 text ≡ front ++ (back ++ tail) = c.whole in
    let here1 : drop at1 text ≡ back ++ tail = behind_text text 0 front (back ++ tail) here0 in
    let here2 : drop at2 text ≡ tail = behind_text text at1 back tail here1 in
    let here2' : drop at2 text ≡ tail ++ [] = here2 ∙ sym ends in
    let here3 : drop at3 text ≡ [] = behind_text text at2 tail [] here2' in
    let next1 = begun begins1.own text at1 (back ++ tail) begins1.begins here1 in
    let next3 = begun finish text at3 [] refl here3 in
    let ended : bodies.ends_a_name Talks (next_lexeme text at1).sign ≡ true = ap (bodies.ends_a_name Talks) next1.stands ∙ ends_protocols begins1.own (back ++ tail) begins1.begins in
    let first_names : Names_data = record { roles = names.roles; labels = first } in
    let mid_names : Names_data = record { roles = names.roles; labels = names_with first lines } in
    let protocol : SpellsProtocol text 0 first_names d.protocol at1
    = subst (λ (z : ℕ). SpellsProtocol text 0 first_names d.protocol z) next1.from
    (front_again names d.protocol front r.shown.shaped sound r.shown.enough c.protocol text (back ++ tail) here0 ended) in
    let mid_few = longer owns (names_with first lines) in
    let row1 : PartsRead Machine_data = row_of mid_names (map (option_map (machine_by number)) d.machines) at2 in
    let row2 : PartsRead Derivation_data = row_of (record { roles = names.roles; labels = names_with (names_with first lines) owns }) (map (option_map (derivation_by number)) d.derivations) at3 in
    let goes1 : GoesOn machine_parts text at1 first_names (no_parts names.roles) (good row1)
    = all_go_again machine_parts of_machines machine_by names number d.machines back lines machines text at1 first_names tail begins2.own here1 begins2' (not_machine begins2.own begins2.word_is) refl
    (omega (arith, few, mid_few)) machine_numbers r.machines in
    let goes2 : GoesOn derivation_parts text at2 mid_names (no_parts names.roles) (good row2)
    = all_go_again derivation_parts of_derivations derivation_by names number d.derivations tail owns derivations text at2 mid_names [] finish here2' refl not_derivation refl few
    derivation_numbers r.derivations in
    record {
      next = at2;
      before = mid_names;
      end = at3;
      parts = record {
        front_is = record { names = first_names; until = at1; protocol_is = protocol; machines_are = goes1 };
        derivations_are = goes2;
      };
      ends = next3.stands;
    }

pub read_again : (d : Document_data) (text : List ℕ) → CanBeReadAgain d → (c : IsCanonicalDocument d text) → SpellsDocument text (document_by_labels d (labels_of_text d text c))
read_again d text r c =
    let all : List (List ℕ) = labels_of_text d text c in
    let names : List (List ℕ) = d.names.labels in
    let number : ℕ → ℕ = number_among names all in
    let first : List (List ℕ) = first_of d text c in
    let lines : List (List ℕ) = lines_of d text c in
    let owns : List (List ℕ) = owns_of d in
    let k = parts_known d text r c in
    let split = split_text d text c in
    let few : length (names_with (names_with first lines) owns) ≤ MOST_LABELS = subst (λ (z : List (List ℕ)). length z ≤ MOST_LABELS) split (text_few d text r c k) in
    let numbers : (l : List ℕ) → is_among l names ≡ true → number (number_or (place_of l names)) ≡ number_or (place_of l (names_with (names_with first lines) owns))
    = λ l a. number_known names all l a ∙ ap (λ (z : List (List ℕ)). number_or (place_of l z)) split in
    let spelt = by_parts d text r c number few (λ l a. numbers l (k.machines l a) ∙ number_kept (names_with first lines) owns l (grown_new l lines first a)) (λ l a. numbers l (k.derivations l a)) in
    subst (λ (z : List (List ℕ)). SpellsDocument text (doc_with d number z)) (sym split) spelt

-- ---- and printed again

machines_printed_again : (names : Names_data) (others : List (List ℕ)) (machines : List (Option Machine_data)) (text : List ℕ) → AreOthers names others → AreAmong others names.labels
    → AreShown names machines → AreShown (record { roles = names.roles; labels = others }) (map (option_map (machine_by (number_among names.labels others))) machines)
    → (lines : AreCanonicalMachines names machines text) → AreAmong (labels_of_lines names machines text lines) others
    → AreCanonicalMachines (record { roles = names.roles; labels = others }) (map (option_map (machine_by (number_among names.labels others))) machines) text
machines_printed_again names others [] text o known these those lines among = lines
machines_printed_again names others (None ∷ machines) text o known these those lines among = machines_printed_again names others machines text o known these.1 those.1 lines among
machines_printed_again names others (Some machine ∷ machines) text o known these those lines among =
    let mine : List (List ℕ) = labels_of_own_text names machine lines.0 lines.2 in
    let more : List (List ℕ) = labels_of_lines names machines lines.1 lines.3 in (
      lines.0,
      lines.1,
      own_printed_again names others machine lines.0 o known these.0 those.0 lines.2 (λ l a. among l (front_among l mine more a)),
      machines_printed_again names others machines lines.1 o known these.1 those.1 lines.3 (λ l a. among l (back_among l mine more a)),
      lines.4,
    )

derivations_printed_again : (names : Names_data) (others : List (List ℕ)) (number : ℕ → ℕ) (derivations : List (Option Derivation_data)) → IsSound names → ArePrintable names derivations
    → IsNamedAlike number names.labels others (flat_map (labels_of_own names) derivations)
    → derivations_text names derivations ≡ derivations_text (record { roles = names.roles; labels = others }) (map (option_map (derivation_by number)) derivations)
derivations_printed_again names others number [] sound printable f = refl
derivations_printed_again names others number (None ∷ derivations) sound printable f = derivations_printed_again names others number derivations sound (λ k d e. printable (suc k) d e) f
derivations_printed_again names others number (Some d ∷ derivations) sound printable f =
    let mine : List (List ℕ) = labels_of_acts (acts_of (tree_of names d)) in
    let more : List (List ℕ) = flat_map (labels_of_own names) derivations in
    ap (λ (z : List ℕ). z ++ derivations_text names derivations) (sym (derivation_printed_again names others d number sound (printable 0 d refl) (λ k a. f k (front_among (name_at names.labels k) mine more a))))
    ∙ ap (λ (z : List ℕ). canonical_text (record { roles = names.roles; labels = others }) (derivation_by number d) ++ z)
    (derivations_printed_again names others number derivations sound (λ k x e. printable (suc k) x e) (λ k a. f k (back_among (name_at names.labels k) mine more a)))

printed_again : (d : Document_data) (text : List ℕ) → CanBeReadAgain d → (c : IsCanonicalDocument d text) → IsCanonicalDocument (document_by_labels d (labels_of_text d text c)) text
printed_again d text r c =
    let all : List (List ℕ) = labels_of_text d text c in
    let names : Names_data = d.names in
    let number : ℕ → ℕ = number_among names.labels all in
    let first : List (List ℕ) = first_of d text c in
    let lines : List (List ℕ) = lines_of d text c in
    let owns : List (List ℕ) = owns_of d in
    let split : all ≡ names_with first (lines ++ owns) = grown_append (graphs.labels_of Talks c.protocol.tree.body) (lines ++ owns) [] in
    let there : AreAmong (lines ++ owns) all = λ l a. subst (λ (z : List (List ℕ)). is_among l z ≡ true) (sym split) (grown_new l (lines ++ owns) first a) in
    let protocol = front_printed_again names d.protocol c.front r.shown.shaped r.shown.sound r.shown.enough c.protocol (lines ++ owns) in
    let again = spelt_again text (document_by_labels d all) (read_again d text r c) in
    let others : AreOthers names all = record {
      these_sound = r.shown.sound;
      those_sound = again.shown.sound;
      few_roles = few_names names d.protocol r.shown.shaped r.shown.enough;
      these_few = r.bounded;
      those_few = again.bounded;
    } in
    let alike : IsNamedAlike number names.labels all owns = λ k a. name_there all (name_at names.labels k) (there (name_at names.labels k) (back_among (name_at names.labels k) lines owns a)) in
    record {
      front = c.front;
      back = c.back;
      protocol = subst (λ (z : List (List ℕ)). IsCanonicalProtocolText (record { roles = names.roles; labels = z }) d.protocol c.front) (sym split) protocol;
      machines = machines_printed_again names all d.machines c.back others (text_known d text c (parts_known d text r c)) r.shown.machines again.shown.machines c.machines
          (λ l a. there l (front_among l lines owns a));
      whole = c.whole ∙ ap (λ (z : List ℕ). c.front ++ (c.back ++ z)) (derivations_printed_again names all number d.derivations r.shown.sound r.shown.derivations alike);
    }

-- what is read from it is printed as it
pub as_itself : (d e : Document_data) (text : List ℕ) → CanBeReadAgain d → IsCanonicalDocument d text → SpellsDocument text e → IsCanonicalDocument e text
as_itself d e text r c h =
    let same : document_by_labels d (labels_of_text d text c) ≡ e = one_document text (document_by_labels d (labels_of_text d text c)) e (read_again d text r c) h in
    subst (λ (z : Document_data). IsCanonicalDocument z text) same (printed_again d text r c)

-- ---- where the labels stand in order

machines_stay : (names : Names_data) (number : ℕ → ℕ) (machines : List (Option Machine_data)) (text : List ℕ) → IsSound names → length names.labels ≤ MOST_LABELS → AreShown names machines
    → (lines : AreCanonicalMachines names machines text) → Renumbers number names.labels names.labels (labels_of_lines names machines text lines)
    → map (option_map (machine_by number)) machines ≡ machines
machines_stay names number [] text sound few shown lines f = refl
machines_stay names number (None ∷ machines) text sound few shown lines f = ap (λ (z : List (Option Machine_data)). None ∷ z) (machines_stay names number machines text sound few shown.1 lines f)
machines_stay names number (Some machine ∷ machines) text sound few shown lines f =
    let mine : List (List ℕ) = labels_of_own_text names machine lines.0 lines.2 in
    let more : List (List ℕ) = labels_of_lines names machines lines.1 lines.3 in
    ap (λ (z : Machine_data). Some z ∷ map (option_map (machine_by number)) machines)
    (own_stays names machine lines.0 number sound few shown.0 lines.2 (λ l a. f l (front_among l mine more a)))
    ∙ ap (λ (z : List (Option Machine_data)). Some machine ∷ z) (machines_stay names number machines lines.1 sound few shown.1 lines.3 (λ l a. f l (back_among l mine more a)))

derivations_stay : (names : Names_data) (number : ℕ → ℕ) (derivations : List (Option Derivation_data)) → IsSound names → ArePrintable names derivations
    → Renumbers number names.labels names.labels (flat_map (labels_of_own names) derivations)
    → map (option_map (derivation_by number)) derivations ≡ derivations
derivations_stay names number [] sound printable f = refl
derivations_stay names number (None ∷ derivations) sound printable f =
    ap (λ (z : List (Option Derivation_data)). None ∷ z) (derivations_stay names number derivations sound (λ k d e. printable (suc k) d e) f)
derivations_stay names number (Some d ∷ derivations) sound printable f =
    let mine : List (List ℕ) = labels_of_acts (acts_of (tree_of names d)) in
    let more : List (List ℕ) = flat_map (labels_of_own names) derivations in
    let is : derivation_of names (tree_of names d) ≡ d = spells_the_derivation names d sound (printable 0 d refl) in
    ap (λ (z : Derivation_data). Some z ∷ map (option_map (derivation_by number)) derivations) (derivation_again names names d number is refl (λ l a. f l (front_among l mine more a)) ∙ is)
    ∙ ap (λ (z : List (Option Derivation_data)). Some d ∷ z) (derivations_stay names number derivations sound (λ k x e. printable (suc k) x e) (λ l a. f l (back_among l mine more a)))

stays : (d : Document_data) (text : List ℕ) → CanBeReadAgain d → IsCanonicalDocument d text → document_by_labels d d.names.labels ≡ d
stays d text r c =
    let labels : List (List ℕ) = d.names.labels in
    let number : ℕ → ℕ = number_among labels labels in
    let k = parts_known d text r c in
    let sound = r.shown.sound in
    ap (λ (z : List (Option Machine_data)). record { names = d.names; protocol = d.protocol; machines = z; derivations = map (option_map (derivation_by number)) d.derivations })
    (machines_stay d.names number d.machines c.back sound r.bounded r.shown.machines c.machines (λ l a. number_known labels labels l (k.machines l a)))
    ∙ ap (λ (z : List (Option Derivation_data)). record { names = d.names; protocol = d.protocol; machines = d.machines; derivations = z })
    (derivations_stay d.names number d.derivations sound r.shown.derivations (λ l a. number_known labels labels l (k.derivations l a)))

pub read_as_itself : (d : Document_data) (text : List ℕ) → CanBeReadAgain d → (c : IsCanonicalDocument d text) → d.names.labels ≡ labels_of_text d text c → SpellsDocument text d
read_as_itself d text r c e =
    subst (λ (z : Document_data). SpellsDocument text z) (stays d text r c) (subst (λ (z : List (List ℕ)). SpellsDocument text (document_by_labels d z)) (sym e) (read_again d text r c))

pub own_stay : (d : Document_data) → CanBeReadAgain d → document_by_labels d d.names.labels ≡ d
own_stay d r = let text = some_text d r.shown in stays d text.0 r text.1

pub in_order : (d : Document_data) (text : List ℕ) → CanBeReadAgain d → (c : IsCanonicalDocument d text) → HasAllLabels d.names d.protocol → d.names.labels ≡ labels_of_text d text c
in_order d text r c all =
    let lines : List (List ℕ) = lines_of d text c in
    let owns : List (List ℕ) = owns_of d in
    let k = parts_known d text r c in
    let first = all_are_first d.names d.protocol c.front r.shown.shaped r.shown.sound r.shown.enough c.protocol all in
    let split : labels_of_text d text c ≡ names_with (first_of d text c) (lines ++ owns) = grown_append (graphs.labels_of Talks c.protocol.tree.body) (lines ++ owns) [] in
    sym (split ∙ ap (λ (z : List (List ℕ)). names_with z (lines ++ owns)) first
    ∙ grown_same (lines ++ owns) d.names.labels (λ l a. either_among l lines owns (is_among l d.names.labels ≡ true) a (k.machines l) (k.derivations l)))

pub read_as_itself_by_protocol : (d : Document_data) (text : List ℕ) → CanBeReadAgain d → HasAllLabels d.names d.protocol → IsCanonicalDocument d text → SpellsDocument text d
read_as_itself_by_protocol d text r all c = read_as_itself d text r c (in_order d text r c all)
