-- What the canonical tree of a protocol spells, and that it is read and printed again.
use Rattle.std.proofs.Common.{◌≡◌, ℕ, zero, suc, ◌<◌, ◌≤◌, List, [], ◌∷◌, length, map, take, true, Some, refl, sym, ap, ◌∙◌, subst, arith, slice_get}
use Rattle.std.proofs.lemmas.List.{length-map}
use Rattle.rs_model.specs.Data.{Protocol_data, Names_data}
use Rattle.rs_model.specs.declared.graph.Arm.{Arm}
use Rattle.rs_model.specs.declared.graph.Node.TheVariants.{Talk}
use Rattle.rs_model.specs.declared.graph.Role.{Role}
use Rattle.rs_model.specs.declared.limits.TheConstants.{MOST_ROLES}
use Rattle.rs_text.proofs.Basics.{some_is}
use Rattle.rs_text.proofs.Naming.{grown_among, grown_differ, among_at, place_at}
use Rattle.rs_text.specs.Names.{names_with, is_among, differ}
use Rattle.rs_text.specs.Sound.{IsSound}
use Rattle.rs_bodies.specs.declared.dialects.Dialect.TheVariants.{Talks}
use Rattle.rs_bodies.specs.declared.dialects.Head.{Head}
use Rattle.rs_bodies.specs.declared.dialects.Head.TheVariants as head
use Rattle.rs_bodies.specs.Canonical.{IsSpelt, HeadHasNames, HaveNames}
use Rattle.rs_bodies.specs.Graph.{labels_of}
use Rattle.rs_bodies.specs.Openings.{Opening, of_roles, roles_in}
use Rattle.rs_bodies.specs.Places.{places_of_protocol}
use Rattle.rs_bodies.specs.Spells.{OpeningFits, numbering}
use Rattle.rs_bodies.proofs.CanonForms.{Writing, label_as, HasLabel, HasNames}
use Rattle.rs_bodies.proofs.CanonNumbers.{WereRead, labels_read, labels_taken, read_again}
use Rattle.rs_bodies.proofs.CanonWhole.{writing, tree_has_names, spelt_tree}
use Rattle.rs_bodies.proofs.GraphsAgain as graphs
use Rattle.rs_bodies.proofs.GraphsAgain.{IsReadable, readable, one_text, tree_there, text_is_read, printed_again}
use Rattle.rs_bodies.proofs.LabelsHave.{among_has}
use Rattle.rs_bodies.proofs.Moved.{draws_stays}
use Rattle.rs_bodies.proofs.NumberedNames.{spelt_names}
use Rattle.rs_bodies.proofs.WrittenNames.{sound_parts}
use Rattle.rs_global.specs.Canonical.{IsTextShaped, IsCanonicalProtocolTree, IsCanonicalProtocolText, with_first_labels}
use Rattle.rs_global.specs.Enough.{AreEnough}
use Rattle.rs_global.specs.Kinds.{names_of, protocols}
use Rattle.rs_global.specs.Spells.{SpellsProtocol}
use Rattle.rs_global.specs.Trees.{ProtocolTree}
use Rattle.rs_global.specs.Graph.{no_names}
use Rattle.rs_global.proofs.Places.{is_kind, is_talk, stands, spelt}

-- ---- the roles of a text

two_in : (o : Opening Talks) → 2 ≤ length (roles_in Talks no_names o)
two_in (of_roles f s xs) = omega arith

few_in : (o : Opening Talks) → OpeningFits Talks no_names o → length (roles_in Talks no_names o) ≤ MOST_ROLES
few_in (of_roles f s xs) fits = fits.1

-- a protocol that a text spells has two to sixteen roles, as many as there are names
pub record HasRoles (names : Names_data) (protocol : Protocol_data) : Type 0 where
  pub count : protocol.roles ≡ length names.roles
  pub two : 2 ≤ length names.roles
  pub bounded : length names.roles ≤ MOST_ROLES

pub spelt_roles : (bytes : List ℕ) (at : ℕ) (names : Names_data) (protocol : Protocol_data) (until : ℕ) → SpellsProtocol bytes at names protocol until → HasRoles names protocol
spelt_roles bytes at names protocol until s =
    let t = s.tree in
    let roles : names.roles ≡ roles_in Talks no_names t.opening = ap (λ z. z.roles) s.names_are in
    record {
      count = ap (λ z. z.roles) s.meaning_is ∙ ap length (sym roles);
      two = subst (λ (z : List (List ℕ)). 2 ≤ length z) (sym roles) (two_in t.opening);
      bounded = subst (λ (z : List (List ℕ)). length z ≤ MOST_ROLES) (sym roles) (few_in t.opening s.fits.opening);
    }

-- ---- names that are enough

as_many : (these those : Names_data) (h : Head) → length these.roles ≡ length those.roles → HeadHasNames these h → HeadHasNames those h
as_many these those (head.Talk s r) e h = (subst (λ (z : ℕ). s.0 < z) e h.0, subst (λ (z : ℕ). r.0 < z) e h.1)
as_many these those (head.Act p m) e h = subst (λ (z : ℕ). p.0 < z) e h

own_names : (protocol : Protocol_data) (s : IsTextShaped protocol) → HaveNames s.names (places_of_protocol protocol)
unfolding spelt graphs.spelt
own_names protocol s =
    let roles = spelt_roles s.bytes s.at s.names protocol s.until s.spells in
    let two : 2 ≤ length s.names.roles = roles.two in
    spelt_names Talks (places_of_protocol protocol) protocol.root (spelt protocol s) (omega arith)

pub have_names : (names : Names_data) (protocol : Protocol_data) → IsTextShaped protocol → AreEnough names protocol → HaveNames names (places_of_protocol protocol)
have_names names protocol s enough =
    let own = own_names protocol s in
    let roles = spelt_roles s.bytes s.at s.names protocol s.until s.spells in
    record {
      heads = λ n h arms there. as_many s.names names h (sym (enough.roles ∙ roles.count)) (own.heads n h arms there);
      labels = λ n index h arms arm there holds. (let k = is_talk protocol n h arms there in enough.labels n index k.sender k.receiver arms arm k.talks holds);
    }

-- the names that a text has are enough for the protocol that it spells
pub spelt_shaped : (bytes : List ℕ) (at : ℕ) (names : Names_data) (protocol : Protocol_data) (until : ℕ) → SpellsProtocol bytes at names protocol until → IsTextShaped protocol
spelt_shaped bytes at names protocol until s = record { bytes = bytes; at = at; names = names; until = until; spells = s }

pub spelt_enough : (bytes : List ℕ) (at : ℕ) (names : Names_data) (protocol : Protocol_data) (until : ℕ) → SpellsProtocol bytes at names protocol until → AreEnough names protocol
unfolding spelt_shaped
spelt_enough bytes at names protocol until s =
    let own : HaveNames names (places_of_protocol protocol) = own_names protocol (spelt_shaped bytes at names protocol until s) in
    record {
      roles = sym (spelt_roles bytes at names protocol until s).count;
      labels = λ n place a b arms arm talks holds. own.labels n place (head.Talk a b) arms arm (stands protocol.nodes n (Talk a b arms) talks) holds;
    }

-- ---- the canonical tree

pub canonical_is_there : (names : Names_data) (protocol : Protocol_data) → IsTextShaped protocol → length names.roles ≡ protocol.roles
    → ((n place : ℕ) (sender receiver : Role) (arms : List Arm) (arm : Arm) → slice_get protocol.nodes n ≡ Some (Talk sender receiver arms) → slice_get arms place ≡ Some arm
    → arm.label.0 < length names.labels) → (tree : ProtocolTree) × IsCanonicalProtocolTree names protocol tree
canonical_is_there names protocol s roles labels =
    let own = spelt_roles s.bytes s.at s.names protocol s.until s.spells in
    let two : 2 ≤ length names.roles = subst (λ (z : ℕ). 2 ≤ z) (sym (roles ∙ own.count)) own.two in
    tree_there protocols names protocol (spelt protocol s) (have_names names protocol s (record { roles = roles; labels = labels })) two

pub canonical_text_is_one : (names : Names_data) (protocol : Protocol_data) (text other : List ℕ) → IsTextShaped protocol → IsCanonicalProtocolText names protocol text
    → IsCanonicalProtocolText names protocol other
    → text ≡ other
canonical_text_is_one names protocol text other shaped h k = one_text protocols names protocol text other (spelt protocol shaped) h k

-- its text is read as the protocol, with the first of the names
pub written : (names : Names_data) (protocol : Protocol_data) (tree : ProtocolTree) → IsTextShaped protocol → IsSound names → AreEnough names protocol → IsCanonicalProtocolTree names protocol tree
    → IsReadable protocols no_names (with_first_labels (length (names_of tree).labels) names) protocol tree
unfolding spelt graphs.spelt
written names protocol tree s sound enough c =
    let places = places_of_protocol protocol in
    let z : IsSpelt Talks places protocol.root = spelt protocol s in
    let t = s.spells.tree in
    let m = numbering Talks no_names t in
    let w : Writing = writing m names places in
    let have : HaveNames names places = have_names names protocol s enough in
    let has : HasNames w (HasLabel w) t.body = tree_has_names (roles_in Talks no_names t.opening) [] m places protocol.root t.body names (spelt_tree Talks places protocol.root z) have in
    let were : WereRead w [] t.body = record {
      read = refl;
      read_differ = grown_differ (labels_of Talks t.body) [] refl;
      named = λ l h. among_has w (HasLabel w) t.body has l (sym (grown_among (labels_of Talks t.body) [] l) ∙ h);
      names_differ = (sound_parts names sound).labels_differ;
    } in
    let roles = spelt_roles s.bytes s.at s.names protocol s.until s.spells in
    let few : length names.roles ≤ MOST_ROLES = subst (λ (z : ℕ). z ≤ MOST_ROLES) (sym (enough.roles ∙ roles.count)) roles.bounded in
    let r = readable protocols is_kind _ _ names no_names (map (label_as w) (labels_read w)) protocol tree z (read_again w [] [] t.body were has refl) sound have (enough.roles, few) c in
    let size : length (labels_read w) ≡ length (names_of tree).labels = sym (ap (λ z. length z.labels) r.names_are ∙ length-map (labels_read w) (label_as w)) in
    subst (λ (z : List (List ℕ)). IsReadable protocols no_names (record { roles = names.roles; labels = z }) protocol tree) (labels_taken w [] t.body were ∙ ap (λ z. take z names.labels) size) r

pub printed_text_is_read_again : (names : Names_data) (protocol : Protocol_data) (text : List ℕ) → IsTextShaped protocol → IsSound names → AreEnough names protocol
    → IsCanonicalProtocolText names protocol text → (labels : ℕ) × SpellsProtocol text 0 (with_first_labels labels names) protocol (length text)
printed_text_is_read_again names protocol text shaped sound enough c =
    let n : ℕ = length (names_of c.tree).labels in
    (n, text_is_read protocols no_names (with_first_labels n names) protocol text c.tree (written names protocol c.tree shaped sound enough c.canonical) c.whole)

-- ---- printed again

pub taken_stands : (xs : List (List ℕ)) (n i : ℕ) (x : List ℕ) → slice_get (take n xs) i ≡ Some x → slice_get xs i ≡ Some x
taken_stands xs zero i x e = absurd (cc e)
taken_stands [] (suc n) i x e = absurd (cc e)
taken_stands (y ∷ xs) (suc n) zero x e = e
taken_stands (y ∷ xs) (suc n) (suc i) x e = taken_stands xs n i x e

-- a name that is among the first n stands there
first_stand : (names : Names_data) (n : ℕ) → differ names.labels ≡ true → (l : List ℕ) (i : ℕ) → is_among l (take n names.labels) ≡ true → slice_get names.labels i ≡ Some l
    → slice_get (take n names.labels) i ≡ Some l
first_stand names n d l i a e =
    let j = among_at (take n names.labels) l a in
    let p = place_at names.labels i l d e in
    let q = place_at names.labels j.0 l d (taken_stands names.labels n j.0 l j.1) in
    ap (λ z. slice_get (take n names.labels) z) (some_is i j.0 (sym p ∙ q)) ∙ j.1

pub printed_text_is_printed_again : (names others : Names_data) (protocol other : Protocol_data) (text : List ℕ) (until : ℕ) → IsTextShaped protocol → IsSound names → AreEnough names protocol
    → IsCanonicalProtocolText names protocol text → SpellsProtocol text 0 others other until → IsCanonicalProtocolText others other text
printed_text_is_printed_again names others protocol other text until shaped sound enough c s =
    let n : ℕ = length (names_of c.tree).labels in
    let w = written names protocol c.tree shaped sound enough c.canonical in
    let labels : names_with [] (labels_of Talks c.tree.body) ≡ take n names.labels = ap (λ z. z.labels) w.names_are in
    let first : (l : List ℕ) (i : ℕ) → is_among l (labels_of Talks c.tree.body) ≡ true → slice_get names.labels i ≡ Some l → slice_get (take n names.labels) i ≡ Some l
    = λ l i a e. first_stand names n (sound_parts names sound).labels_differ l i (subst (λ (z : List (List ℕ)). is_among l z ≡ true) labels (grown_among (labels_of Talks c.tree.body) [] l ∙ a)) e in
    let again : IsCanonicalProtocolTree (with_first_labels n names) protocol c.tree
    = record { opening = c.canonical.opening; body = draws_stays c.tree.body names (take n names.labels) (places_of_protocol protocol) 0 protocol.root first c.canonical.body } in
    printed_again protocols is_kind.made no_names (with_first_labels n names) others protocol other text until
    (text_is_read protocols no_names (with_first_labels n names) protocol text c.tree w c.whole)
    s
    (record { tree = c.tree; canonical = again; whole = c.whole })
