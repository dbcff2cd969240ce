-- The front of a document, its roles line and its protocol, is read again and printed again.
use Rattle.std.proofs.Common.{◌≡◌, ℕ, zero, suc, ◌+◌, ◌<◌, ◌≤◌, List, [], ◌∷◌, ◌++◌, length, take, drop, true, Some, refl, sym, ap, ◌∙◌, subst, arith, slice_get}
use Rattle.rs_documents.proofs.MoreNames.{AreAmong, grown_new}
use Rattle.rs_documents.specs.Again.{HasAllLabels}
use Rattle.rs_bodies.proofs.GraphsAgain.{lone_tree_spelt, tree_spelt}
use Rattle.rs_global.proofs.Canonical.{spelt_enough, taken_stands, written}
use Rattle.rs_global.specs.Graph.{no_names}
use Rattle.rs_global.specs.Canonical.{IsCanonicalProtocolText, IsTextShaped}
use Rattle.rs_global.specs.Enough.{AreEnough}
use Rattle.rs_global.specs.Kinds.{names_of, protocols}
use Rattle.rs_global.specs.Spells.{SpellsProtocol}
use Rattle.rs_global.specs.Texts.{protocol_text}
use Rattle.rs_model.specs.Data.{Names_data, Protocol_data}
use Rattle.rs_text.proofs.Basics.{some_is}
use Rattle.rs_text.proofs.Naming.{among_at, at_among, grown_stays, place_at, place_stands, placed_by}
use Rattle.rs_text.specs.Lexing.{next_lexeme}
use Rattle.rs_text.specs.Names.{names_with, is_among, place_of, differ}
use Rattle.rs_text.specs.Sound.{IsSound}
use Rattle.rs_bodies.specs.declared.dialects.Dialect.TheVariants.{Talks}
use Rattle.rs_bodies.specs.Graph.{labels_of}
use Rattle.rs_bodies.specs.Places.{places_of_protocol}
use Rattle.rs_bodies.proofs.Moved.{draws_stays}
use Rattle.rs_bodies.proofs.WrittenNames.{sound_parts}
use Rattle.rs_bodies.specs.Trees.{ends_a_name}

-- ---- read again

pub front_again : (names : Names_data) (protocol : Protocol_data) (text : List ℕ) → IsTextShaped protocol → IsSound names → AreEnough names protocol → (c : IsCanonicalProtocolText names protocol text)
    → (bytes rest : List ℕ) → drop 0 bytes ≡ text ++ rest
    → ends_a_name Talks (next_lexeme bytes (0 + length text)).sign ≡ true
    → SpellsProtocol bytes 0 (record { roles = names.roles; labels = names_with [] (labels_of Talks c.tree.body) }) protocol (next_lexeme bytes (0 + length text)).from
front_again names protocol text shaped sound enough c bytes rest parts ended =
    let w = written names protocol c.tree shaped sound enough c.canonical in
    let e : text ≡ protocol_text c.tree = c.whole in
    let spelt = tree_spelt protocols bytes 0 no_names c.tree rest w.words w.fits (subst (λ (z : List ℕ). drop 0 bytes ≡ z ++ rest) e parts)
    (λ _. subst (λ (z : List ℕ). ends_a_name Talks (next_lexeme bytes (0 + length z)).sign ≡ true) e ended) in
    subst (λ (z : List ℕ). SpellsProtocol bytes 0 (record { roles = names.roles; labels = names_with [] (labels_of Talks c.tree.body) }) protocol (next_lexeme bytes (0 + length z)).from) (sym e)
    (subst (λ (z : List (List ℕ)). SpellsProtocol bytes 0 (record { roles = z; labels = names_with [] (labels_of Talks c.tree.body) }) protocol
    (next_lexeme bytes (0 + length (protocol_text c.tree))).from) (ap (λ (z : Names_data). z.roles) w.names_are)
    (subst (λ (z : Protocol_data). SpellsProtocol bytes 0 (names_of c.tree) z (next_lexeme bytes (0 + length (protocol_text c.tree))).from) w.graph_is spelt))

-- ---- its labels are the first of the names

pub labels_are_first : (names : Names_data) (protocol : Protocol_data) (text : List ℕ) → IsTextShaped protocol → IsSound names → AreEnough names protocol
    → (c : IsCanonicalProtocolText names protocol text)
    → names_with [] (labels_of Talks c.tree.body) ≡ take (length (names_with [] (labels_of Talks c.tree.body))) names.labels
labels_are_first names protocol text shaped sound enough c = let w = written names protocol c.tree shaped sound enough c.canonical in ap (λ (z : Names_data). z.labels) w.names_are

stands_there : (labels first : List (List ℕ)) → first ≡ take (length first) labels → (k : ℕ) (l : List ℕ) → slice_get first k ≡ Some l → slice_get labels k ≡ Some l
stands_there labels first e k l h = taken_stands labels (length first) k l (subst (λ (z : List (List ℕ)). slice_get z k ≡ Some l) e h)

pub labels_known : (names : Names_data) (protocol : Protocol_data) (text : List ℕ) → IsTextShaped protocol → IsSound names → AreEnough names protocol
    → (c : IsCanonicalProtocolText names protocol text)
    → AreAmong (labels_of Talks c.tree.body) names.labels
labels_known names protocol text shaped sound enough c l h =
    let first : List (List ℕ) = names_with [] (labels_of Talks c.tree.body) in
    let at = among_at first l (grown_new l (labels_of Talks c.tree.body) [] h) in
    at_among names.labels at.0 l (stands_there names.labels first (labels_are_first names protocol text shaped sound enough c) at.0 l at.1)

-- ---- printed again

stay : (labels first further : List (List ℕ)) → differ labels ≡ true → first ≡ take (length first) labels → (l : List ℕ) (i : ℕ) → is_among l first ≡ true → slice_get labels i ≡ Some l
    → slice_get (names_with first further) i ≡ Some l
stay labels first further d e l i a h =
    let p = placed_by (place_of l first) l first refl a in
    let there : slice_get labels p.0 ≡ Some l = stands_there labels first e p.0 l (place_stands first l p.0 p.1).present in
    let same : p.0 ≡ i = some_is p.0 i (sym (place_at labels p.0 l d there) ∙ place_at labels i l d h) in
    subst (λ (z : ℕ). slice_get (names_with first further) z ≡ Some l) same (place_stands (names_with first further) l p.0 (grown_stays further first l p.0 p.1)).present

pub front_printed_again : (names : Names_data) (protocol : Protocol_data) (text : List ℕ) → IsTextShaped protocol → IsSound names → AreEnough names protocol
    → (c : IsCanonicalProtocolText names protocol text)
    → (further : List (List ℕ))
    → IsCanonicalProtocolText (record { roles = names.roles; labels = names_with (names_with [] (labels_of Talks c.tree.body)) further }) protocol text
front_printed_again names protocol text shaped sound enough c further =
    let first : List (List ℕ) = names_with [] (labels_of Talks c.tree.body) in
    let d : differ names.labels ≡ true = (sound_parts names sound).labels_differ in
    let e = labels_are_first names protocol text shaped sound enough c in
    record {
      tree = c.tree;
      canonical = record {
        opening = c.canonical.opening;
        body = draws_stays c.tree.body names (names_with first further) (places_of_protocol protocol) 0 protocol.root
            (λ l i a h. stay names.labels first further d e l i (grown_new l (labels_of Talks c.tree.body) [] a) h) c.canonical.body;
      };
      whole = c.whole;
    }

-- ---- where all labels are the protocol's

take_all : (xs : List (List ℕ)) (n : ℕ) → length xs ≤ n → take n xs ≡ xs
take_all [] zero h = refl
take_all [] (suc n) h = refl
take_all (x ∷ xs) zero h = absurd (omega arith)
take_all (x ∷ xs) (suc n) h = ap (λ (z : List (List ℕ)). x ∷ z) (take_all xs n (omega arith))

all_below : (n m : ℕ) → ((k : ℕ) → k < n → k < m) → n ≤ m
all_below zero m f = omega arith
all_below (suc n) m f = let h = f n (omega arith) in omega (arith, h)

pub all_are_first : (names : Names_data) (protocol : Protocol_data) (text : List ℕ) → IsTextShaped protocol → IsSound names → AreEnough names protocol
    → (c : IsCanonicalProtocolText names protocol text)
    → HasAllLabels names protocol
    → names_with [] (labels_of Talks c.tree.body) ≡ names.labels
all_are_first names protocol text shaped sound enough c all =
    let first : List (List ℕ) = names_with [] (labels_of Talks c.tree.body) in
    let w = written names protocol c.tree shaped sound enough c.canonical in
    let spelt : SpellsProtocol (protocol_text c.tree) 0 (names_of c.tree) protocol (length (protocol_text c.tree))
    = subst (λ (z : Protocol_data). SpellsProtocol (protocol_text c.tree) 0 (names_of c.tree) z (length (protocol_text c.tree))) w.graph_is
    (lone_tree_spelt protocols no_names c.tree w.words w.fits) in
    let own = spelt_enough (protocol_text c.tree) 0 (names_of c.tree) protocol (length (protocol_text c.tree)) spelt in
    let below : (k : ℕ) → k < length names.labels → k < length first
    = λ k lt. (let h = all k lt in subst (λ (z : ℕ). z < length first) h.number (own.labels h.node h.place h.sender h.receiver h.arms h.arm h.talks h.stands)) in
    labels_are_first names protocol text shaped sound enough c ∙ take_all names.labels (length first) (all_below (length names.labels) (length first) below)
