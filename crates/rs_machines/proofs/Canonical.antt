-- What the canonical tree of a machine spells, and that it is read and printed again.
use Rattle.std.proofs.Common.{◌≡◌, ℕ, ◌+◌, ◌<◌, List, [], ◌∷◌, ◌++◌, length, map, drop, true, nat_lt, refl, sym, ap, ◌∙◌, subst, arith, slice_get}
use Rattle.std.specs.Str.{bytes_eq}
use Rattle.rs_model.specs.Data.{Machine_data, Names_data}
use Rattle.rs_text.proofs.Basics.{or_first, or_end, some_is}
use Rattle.rs_text.proofs.Naming.{among_at, bytes_same}
use Rattle.rs_text.specs.Lexing.{next_lexeme}
use Rattle.rs_text.specs.Names.{number_or, names_with, is_among, place_of, differ}
use Rattle.rs_text.specs.Sound.{IsSound}
use Rattle.rs_bodies.specs.declared.dialects.Dialect.TheVariants.{Acts}
use Rattle.rs_bodies.specs.declared.dialects.Head.{Head}
use Rattle.rs_bodies.specs.declared.dialects.Head.TheVariants as head
use Rattle.rs_bodies.specs.Canonical.{IsSpelt, HeadHasNames, HaveNames}
use Rattle.rs_bodies.specs.Graph.{label_by_name}
use Rattle.rs_bodies.specs.Openings.{Opening, of_role}
use Rattle.rs_bodies.specs.Places.{places_of_machine}
use Rattle.rs_bodies.specs.Spells.{OpeningFits, numbering}
use Rattle.rs_bodies.specs.Trees.{ends_by_name, ends_a_name}
use Rattle.rs_bodies.proofs.CanonForms.{Writing, label_as, HasLabel, HasNames}
use Rattle.rs_bodies.proofs.CanonNest.{Carries, carried}
use Rattle.rs_bodies.proofs.CanonNumbers.{WereRead, labels_read, first_read, label_at, read_again}
use Rattle.rs_bodies.proofs.CanonWhole.{writing, tree_has_names, spelt_tree}
use Rattle.rs_bodies.proofs.GraphsAgain as graphs
use Rattle.rs_bodies.proofs.GraphsAgain.{AreReadAgain, IsReadable, readable, one_text, tree_there, text_is_read, text_is_read_anywhere, printed_again}
use Rattle.rs_bodies.proofs.Leading.{known_by}
use Rattle.rs_bodies.proofs.NumberedNames.{spelt_names}
use Rattle.rs_bodies.proofs.WrittenNames.{label_place, label_known, sound_parts}
use Rattle.rs_machines.specs.Canonical.{IsMachineTextShaped, IsCanonicalMachineTree, IsCanonicalMachineText}
use Rattle.rs_machines.specs.Enough.{AreEnoughFor}
use Rattle.rs_machines.specs.Kinds.{machines}
use Rattle.rs_machines.specs.Machines.{owner_of}
use Rattle.rs_machines.specs.Spells.{SpellsMachine}
use Rattle.rs_machines.specs.Texts.{machine_text}
use Rattle.rs_machines.specs.Trees.{MachineTree}
use Rattle.rs_machines.proofs.Places.{is_kind, is_act, act_stands, spelt, spelt_places}

-- ---- names that are enough

known_role : (old : Names_data) (o : Opening Acts) (t : MachineTree) → OpeningFits Acts old o → (owner_of (numbering Acts old t) o).0 < length old.roles
known_role old (of_role r) t fits = known_by (place_of r old.roles) r old.roles refl fits

-- the role of a machine that a text spells is one of those that were there
pub spelt_role : (bytes : List ℕ) (at : ℕ) (old new : Names_data) (machine : Machine_data) (until : ℕ) → SpellsMachine bytes at old new machine until → machine.role.0 < length old.roles
spelt_role bytes at old new machine until s =
    subst (λ (z : Machine_data). z.role.0 < length old.roles) (sym s.meaning_is) (known_role old s.tree.opening s.tree s.fits.opening)

pub spelt_enough : (bytes : List ℕ) (at : ℕ) (old new : Names_data) (machine : Machine_data) (until : ℕ) → SpellsMachine bytes at old new machine until → AreEnoughFor new machine
unfolding spelt_places graphs.spelt
spelt_enough bytes at old new machine until s =
    let roles : old.roles ≡ new.roles = sym (ap (λ z. z.roles) s.names_are) in
    let role : machine.role.0 < length new.roles = subst (λ (z : List (List ℕ)). machine.role.0 < length z) roles (spelt_role bytes at old new machine until s) in
    let own : HaveNames new (places_of_machine machine) = spelt_names Acts (places_of_machine machine) machine.start (spelt_places bytes at old new machine until s) (omega arith) in
    record {
      role = role;
      peers = λ n y peer arms e. own.heads n (head.Act peer y) arms (act_stands machine n y peer arms e);
      labels = λ n place y peer arms arm e holds. own.labels n place (head.Act peer y) arms arm (act_stands machine n y peer arms e) holds;
    }

pub have_names : (names : Names_data) (machine : Machine_data) → AreEnoughFor names machine → HaveNames names (places_of_machine machine)
have_names names machine enough = record {
  heads = λ n h arms there. (let k = is_act machine n h arms there in subst (λ (z : Head). HeadHasNames names z) (sym k.head_is) (enough.peers n k.mark k.peer arms k.acts));
  labels = λ n index h arms arm there holds. (let k = is_act machine n h arms there in enough.labels n index k.mark k.peer arms arm k.acts holds);
}

-- ---- the canonical tree

pub canonical_is_there : (names : Names_data) (machine : Machine_data) → IsMachineTextShaped machine → AreEnoughFor names machine → (tree : MachineTree) × IsCanonicalMachineTree names machine tree
canonical_is_there names machine s enough = tree_there machines names machine (spelt_places s.bytes s.at s.old s.new machine s.until s.spells) (have_names names machine enough) enough.role

pub canonical_text_is_there : (names : Names_data) (machine : Machine_data) → IsMachineTextShaped machine → AreEnoughFor names machine → (text : List ℕ) × IsCanonicalMachineText names machine text
canonical_text_is_there names machine shaped enough =
    let c = canonical_is_there names machine shaped enough in
    (machine_text c.0, record { tree = c.0; canonical = c.1; whole = refl })

pub canonical_text_is_one : (names : Names_data) (machine : Machine_data) (text other : List ℕ) → IsMachineTextShaped machine → IsCanonicalMachineText names machine text
    → IsCanonicalMachineText names machine other → text ≡ other
canonical_text_is_one names machine text other shaped h k = one_text machines names machine text other (spelt machine shaped) h k

-- ---- read again with the names that it is written with: each label is known

known_stay : (x : List ℕ) (labels : List (List ℕ)) → is_among x labels ≡ true → names_with labels (x ∷ []) ≡ labels
known_stay x labels h = rw h refl

-- each label that is written is among these already
abbrev Stays : List (List ℕ) → List (List ℕ) → List (List ℕ) → Type 0
Stays names read labels = labels ≡ names

carries : (w : Writing) → Carries (HasLabel w) (Stays w.names.labels) w
carries w = record {
  room = λ l ls labels has same h. or_first (is_among (label_as w l) labels) (nat_lt (length labels) 256) (ap (λ z. is_among (label_as w l) z) same ∙ label_known w l has);
  grows = λ l ls labels has same. ap (λ z. names_with z (label_as w l ∷ [])) same ∙ known_stay (label_as w l) w.names.labels (label_known w l has);
}

pub spelt_readable : (bytes : List ℕ) (at : ℕ) (old new names : Names_data) (machine : Machine_data) (until : ℕ) (tree : MachineTree) → SpellsMachine bytes at old new machine until → IsSound names
    → AreEnoughFor names machine → IsCanonicalMachineTree names machine tree → IsReadable machines names names machine tree
unfolding spelt_places graphs.spelt
spelt_readable bytes at old new names machine until tree s sound enough c =
    let places = places_of_machine machine in
    let z : IsSpelt Acts places machine.start = spelt_places bytes at old new machine until s in
    let t = s.tree in
    let m = numbering Acts old t in
    let w : Writing = writing m names places in
    let have : HaveNames names places = have_names names machine enough in
    let has : HasNames w (HasLabel w) t.body = tree_has_names old.roles old.labels m places machine.start t.body names (spelt_tree Acts places machine.start z) have in
    let again : AreReadAgain (HasLabel w) (Stays names.labels) w t.body old.labels names.labels names.labels = record {
      has = has;
      carries = carries w;
      begins = refl;
      ends = carried (HasLabel w) (Stays names.labels) w t.body [] 0 old.labels names.labels (carries w) has refl;
      numbers = λ l h. ap number_or (label_place w l (sound_parts names sound).labels_differ h);
    } in
    readable machines is_kind (HasLabel w) (Stays names.labels) names names names.labels machine tree z again sound have refl c

pub written : (names : Names_data) (machine : Machine_data) (tree : MachineTree) → IsMachineTextShaped machine → IsSound names → AreEnoughFor names machine → IsCanonicalMachineTree names machine tree
    → IsReadable machines names names machine tree
written names machine tree s sound enough c = spelt_readable s.bytes s.at s.old s.new names machine s.until tree s.spells sound enough c

pub printed_text_is_read_again : (names : Names_data) (machine : Machine_data) (text : List ℕ) → IsMachineTextShaped machine → IsSound names → AreEnoughFor names machine
    → IsCanonicalMachineText names machine text → SpellsMachine text 0 names names machine (length text)
printed_text_is_read_again names machine text shaped sound enough c = text_is_read machines names names machine text c.tree (written names machine c.tree shaped sound enough c.canonical) c.whole

-- at any place
pub printed_text_is_read_anywhere : (bytes : List ℕ) (at : ℕ) (names : Names_data) (machine : Machine_data) (text behind : List ℕ) → IsMachineTextShaped machine → IsSound names
    → AreEnoughFor names machine → (c : IsCanonicalMachineText names machine text) → drop at bytes ≡ text ++ behind
    → (ends_by_name Acts c.tree.body ≡ true → ends_a_name Acts (next_lexeme bytes (at + length text)).sign ≡ true)
    → SpellsMachine bytes at names names machine (next_lexeme bytes (at + length text)).from
printed_text_is_read_anywhere bytes at names machine text behind shaped sound enough c parts settled =
    text_is_read_anywhere machines bytes at names names machine text behind c.tree (written names machine c.tree shaped sound enough c.canonical) c.whole parts settled

pub printed_text_is_printed_again : (names others : Names_data) (machine other : Machine_data) (text : List ℕ) (until : ℕ) → IsMachineTextShaped machine → IsSound names → AreEnoughFor names machine
    → IsCanonicalMachineText names machine text → SpellsMachine text 0 names others other until → IsCanonicalMachineText others other text
printed_text_is_printed_again names others machine other text until shaped sound enough c s =
    printed_again machines is_kind.made names names others machine other text until (printed_text_is_read_again names machine text shaped sound enough c) s c

-- ---- read again with the names before it: each label is written as it was

same_all : (f : List ℕ → List ℕ) (xs : List (List ℕ)) → ((l : List ℕ) → is_among l xs ≡ true → l ≡ f l) → xs ≡ map f xs
same_all f [] h = refl
same_all f (x ∷ xs) h =
    ap (λ z. z ∷ xs) (h x (or_first (bytes_eq x x) (is_among x xs) (bytes_same x))) ∙ ap (λ z. f x ∷ z) (same_all f xs (λ l a. h l (or_end (bytes_eq x l) (is_among l xs) a)))

older_readable : (bytes : List ℕ) (at : ℕ) (old new : Names_data) (machine : Machine_data) (until : ℕ) (tree : MachineTree) → SpellsMachine bytes at old new machine until → IsSound new
    → IsCanonicalMachineTree new machine tree → IsReadable machines old new machine tree
unfolding spelt_places graphs.spelt
older_readable bytes at old new machine until tree s sound c =
    let places = places_of_machine machine in
    let z : IsSpelt Acts places machine.start = spelt_places bytes at old new machine until s in
    let t = s.tree in
    let m = numbering Acts old t in
    let w : Writing = writing m new places in
    let f : List ℕ → List ℕ = label_as w in
    let same : new.labels ≡ labels_read w = ap (λ z. z.labels) s.names_are in
    let d : differ new.labels ≡ true = (sound_parts new sound).labels_differ in
    let have : HaveNames new places = have_names new machine (spelt_enough bytes at old new machine until s) in
    let has : HasNames w (HasLabel w) t.body = tree_has_names old.roles old.labels m places machine.start t.body new (spelt_tree Acts places machine.start z) have in
    let were : WereRead w old.labels t.body = record {
      read = refl;
      read_differ = sym (ap differ same) ∙ d;
      named = λ l h. subst (λ (z : List (List ℕ)). (label_by_name m l).0 < length z) (sym same) (known_by (place_of l (labels_read w)) l (labels_read w) refl h);
      names_differ = d;
    } in
    let stays : (l : List ℕ) → is_among l (labels_read w) ≡ true → l ≡ f l = λ l h. (
    let i = among_at (labels_read w) l h in
    some_is l (f l) (sym i.1 ∙ ap (λ z. slice_get z i.0) (sym same) ∙ label_at w old.labels t.body were i.0 l i.1)) in
    let first : old.labels ≡ map f old.labels = same_all f old.labels (λ l h. stays l (first_read w old.labels t.body were l h)) in
    let r = readable machines is_kind _ _ new old (map f (labels_read w)) machine tree z (read_again w old.labels old.labels t.body were has first) sound have
    (sym (ap (λ z. z.roles) s.names_are)) c in
    subst (λ (z : List (List ℕ)). IsReadable machines old (record { roles = new.roles; labels = z }) machine tree) (sym (same_all f (labels_read w) stays) ∙ sym same) r

pub printed_text_is_read_with_the_names_before : (bytes : List ℕ) (at : ℕ) (old new : Names_data) (machine : Machine_data) (until : ℕ) (text : List ℕ) → SpellsMachine bytes at old new machine until
    → IsSound new → IsCanonicalMachineText new machine text → SpellsMachine text 0 old new machine (length text)
printed_text_is_read_with_the_names_before bytes at old new machine until text s sound c =
    text_is_read machines old new machine text c.tree (older_readable bytes at old new machine until c.tree s sound c.canonical) c.whole
