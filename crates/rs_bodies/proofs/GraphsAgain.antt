-- The canonical tree of a graph that a text spells: there is one, it spells the graph again, and its text is read and
-- printed again.
use Rattle.std.proofs.Common.{◌≡◌, ℕ, ◌+◌, ◌<◌, ◌≤◌, List, [], ◌∷◌, ◌++◌, length, map, drop, Bool, true, get_or, refl, sym, ap, ◌∙◌, subst, arith}
use Rattle.std.proofs.lemmas.List.{map-append}
use Rattle.std.proofs.lemmas.Option.{slice_get-get_or}
use Rattle.std.specs.List.{All}
use Rattle.rs_model.specs.Data.{Names_data}
use Rattle.rs_model.specs.declared.limits.TheConstants.{MOST_ROLES}
use Rattle.rs_text.proofs.Basics.{some_is}
use Rattle.rs_text.proofs.Naming.{all_at, at_among, place_at}
use Rattle.rs_text.specs.Lexing.{next_lexeme}
use Rattle.rs_text.specs.Names.{names_with, number_or, place_of, differ, is_among}
use Rattle.rs_text.specs.Sound.{IsSound}
use Rattle.rs_text.specs.Words.{is_word, is_role_word}
use Rattle.rs_bodies.specs.declared.dialects.Dialect.{Dialect}
use Rattle.rs_bodies.specs.declared.dialects.Dialect.TheVariants.{Talks, Acts}
use Rattle.rs_bodies.specs.declared.places.Place.{Place}
use Rattle.rs_bodies.specs.declared.places.Place.TheVariants as place
use Rattle.rs_model.specs.declared.graph.Arm.{Arm}
use Rattle.rs_bodies.specs.Dialects.{BehindRole}
use Rattle.rs_bodies.specs.Points.{points_of}
use Rattle.rs_bodies.proofs.Heads.{heads_mapped}
use Rattle.rs_bodies.specs.Bodied.{SpellsPlaces, HasBody}
use Rattle.rs_bodies.specs.Canonical.{IsSpelt, HaveNames}
use Rattle.rs_bodies.specs.Data.{Spelling_data}
use Rattle.rs_bodies.specs.Graph.{labels_of, has_end, heads_of, role_by_name, label_by_name, Numbering}
use Rattle.rs_bodies.specs.GraphKinds.{GraphKind}
use Rattle.rs_bodies.proofs.GraphSpelling.{SpellsOf}
use Rattle.rs_bodies.specs.CanonicalGraphs.{IsOpeningOf, IsCanonicalTree, IsCanonicalGraphText}
use Rattle.rs_bodies.specs.Openings.{Opening, of_roles, of_role, roles_in}
use Rattle.rs_bodies.specs.Places.{end_of, places_spelt}
use Rattle.rs_bodies.specs.Spells.{Tree, Fits, OpeningFits, names_of, numbering}
use Rattle.rs_bodies.specs.Spellings.{spelling_of}
use Rattle.rs_bodies.specs.Texts.{part_text}
use Rattle.rs_bodies.specs.Trees.{Body, ends_by_name, ends_a_name}
use Rattle.rs_bodies.specs.Writable.{AreWords, AreWordsInOpening}
use Rattle.rs_bodies.proofs.CanonForms.{Writing, role_as, label_as, canon, HasNames, role_stands, label_stands}
use Rattle.rs_bodies.proofs.CanonNest.{Carries}
use Rattle.rs_bodies.proofs.CanonOne.{drawn_once}
use Rattle.rs_bodies.proofs.CanonSame.{SameNumbers, canon_acts}
use Rattle.rs_bodies.proofs.CanonWhole.{IsTreeOf, spelt_tree, writing, canon_of, canon_is, canon_there, canon_same, canon_within, canon_words}
use Rattle.rs_bodies.proofs.GraphLaws.{IsMade, one_spelling, part_spelt}
use Rattle.rs_bodies.proofs.PlacesIn.{point_at, places_are}
use Rattle.rs_bodies.proofs.PrintedTrees as printed
use Rattle.rs_bodies.proofs.WrittenNames.{role_place, role_known, Sound, sound_parts}

-- ---- kinds of graphs

-- what the opening of a part says of its graph
abbrev pub own_spelt : (d : Dialect) → Names_data → Spelling_data → ℕ
own_spelt Talks names s = length names.roles
own_spelt Acts names s = s.role.0

-- a graph that is made of what a part spells has its places, and places, root and own number tell which graph it is
pub record IsKind {d : Dialect} {G : Type 0} (kind : GraphKind d G) : Type 0 where
  pub made : IsMade kind
  pub places : (old : Names_data) (t : Tree d) → kind.places (kind.graph_of old t) ≡ places_spelt (spelling_of d old t)
  pub root : (old : Names_data) (t : Tree d) → kind.root (kind.graph_of old t) ≡ (spelling_of d old t).start
  pub own : (old : Names_data) (t : Tree d) → kind.own (kind.graph_of old t) ≡ own_spelt d (names_of d old t) (spelling_of d old t)
  pub one : (x y : G) → kind.own x ≡ kind.own y → kind.places x ≡ kind.places y → kind.root x ≡ kind.root y → x ≡ y

-- what is made of the heads and of the end has their places
pub heads_placed : {X : Type 0} (d : Dialect) (f : Numbering → List ℕ → BehindRole d → List Arm → X) (g : X → Place) (last : Bool → List X)
    → ((m : Numbering) (x : List ℕ) (t : BehindRole d) (arms : List Arm) → g (f m x t arms) ≡ point_at d m x t arms) → ((c : Bool) → map g (last c) ≡ end_of c)
    → (m : Numbering) (b : Body d) (c : Bool) → map g (heads_of d (f m) m b [] 0 ++ last c) ≡ map place.Point (points_of d m b [] 0) ++ end_of c
heads_placed {X} d f g last e ends m b c =
    map-append g (heads_of d (f m) m b [] 0) (last c)
    ∙ ap (λ z. z ++ map g (last c)) (heads_mapped d g (f m) (point_at d m) (e m) m b [] 0 ∙ sym (places_are m b [] 0))
    ∙ ap (λ z. map place.Point (points_of d m b [] 0) ++ z) (ends c)

-- a text of the graph spells its places
unfoldable pub spelt : {d : Dialect} {G : Type 0} (kind : GraphKind d G) → IsKind kind → (bytes : List ℕ) (at : ℕ) (old new : Names_data) (graph : G) (until : ℕ)
    → SpellsOf kind bytes at old new graph until → IsSpelt d (kind.places graph) (kind.root graph)
spelt {d} kind k bytes at old new graph until s =
    record {
      bytes = bytes;
      at = at;
      old = old;
      new = new;
      spelling = spelling_of d old s.tree;
      until = until;
      spells = part_spelt kind bytes at old new graph until s;
      places_are = ap kind.places s.meaning_is ∙ k.places old s.tree;
      root_is = ap kind.root s.meaning_is ∙ k.root old s.tree;
    }

-- ---- the text of a tree spells its graph

pub tree_spelt : {d : Dialect} {G : Type 0} (kind : GraphKind d G) (bytes : List ℕ) (at : ℕ) (old : Names_data) (t : Tree d) (rest : List ℕ) → AreWords d t → Fits d old t
    → drop at bytes ≡ part_text d t ++ rest
    → (ends_by_name d t.body ≡ true → ends_a_name d (next_lexeme bytes (at + length (part_text d t))).sign ≡ true)
    → SpellsOf kind bytes at old (names_of d old t) (kind.graph_of old t) (next_lexeme bytes (at + length (part_text d t))).from
tree_spelt {d} kind bytes at old t rest words fits parts settled = printed.part_spelt d kind.graph_of bytes at old t rest words fits parts settled

pub lone_tree_spelt : {d : Dialect} {G : Type 0} (kind : GraphKind d G) (old : Names_data) (t : Tree d) → AreWords d t → Fits d old t
    → SpellsOf kind (part_text d t) 0 old (names_of d old t) (kind.graph_of old t) (length (part_text d t))
lone_tree_spelt {d} kind old t words fits = printed.lone_part_spelt d kind.graph_of old t words fits

-- ---- one canonical tree

same_roles : (f s g t : List ℕ) (xs ys : List (List ℕ)) → f ∷ s ∷ xs ≡ g ∷ t ∷ ys → of_roles f s xs ≡ of_roles g t ys
same_roles f s g t xs ys e = cc

same_opening : (d : Dialect) (names : Names_data) (own : ℕ) (x y : Opening d) → IsOpeningOf d names.roles own x → IsOpeningOf d names.roles own y → x ≡ y
same_opening Talks names own (of_roles f s xs) (of_roles g t ys) a b = same_roles f s g t xs ys (a ∙ sym b)
same_opening Acts names own (of_role r) (of_role q) a b = ap of_role (some_is r q (sym a ∙ b))

abbrev part : {d : Dialect} → Opening d → Body d → Tree d
part o b = record { opening = o; body = b }

same_tree : {d : Dialect} (x y : Tree d) → x.opening ≡ y.opening → x.body ≡ y.body → x ≡ y
same_tree x y e f = ap (λ z. part z x.body) e ∙ ap (λ z. part y.opening z) f

pub one_tree : {d : Dialect} {G : Type 0} (kind : GraphKind d G) (names : Names_data) (graph : G) (x y : Tree d) → IsSpelt d (kind.places graph) (kind.root graph) → IsCanonicalTree kind names graph x
    → IsCanonicalTree kind names graph y → x ≡ y
one_tree {d} kind names graph x y z h k =
    same_tree x y (same_opening d names (kind.own graph) x.opening y.opening h.opening k.opening) (drawn_once d names (kind.places graph) (kind.root graph) x.body y.body z h.body k.body)

pub one_text : {d : Dialect} {G : Type 0} (kind : GraphKind d G) (names : Names_data) (graph : G) (text other : List ℕ) → IsSpelt d (kind.places graph) (kind.root graph)
    → IsCanonicalGraphText kind names graph text → IsCanonicalGraphText kind names graph other → text ≡ other
one_text {d} kind names graph text other z h k = h.whole ∙ ap (λ t. part_text d t) (one_tree kind names graph h.tree k.tree z h.canonical k.canonical) ∙ sym k.whole

-- ---- there is a canonical tree

-- there are names for an opening
abbrev pub HasOpening : (d : Dialect) → Names_data → (own : ℕ) → Type 0
HasOpening Talks names own = 2 ≤ length names.roles
HasOpening Acts names own = own < length names.roles

line_there : (roles : List (List ℕ)) → 2 ≤ length roles → (f s : List ℕ) × (xs : List (List ℕ)) × (f ∷ s ∷ xs ≡ roles)
line_there [] h = absurd (omega arith)
line_there (x ∷ []) h = absurd (omega arith)
line_there (x ∷ y ∷ xs) h = (x, y, xs, refl)

pub opening_there : (d : Dialect) (names : Names_data) (own : ℕ) → HasOpening d names own → (o : Opening d) × IsOpeningOf d names.roles own o
opening_there Talks names own h = let l = line_there names.roles h in (of_roles l.0 l.1 l.2, l.3)
opening_there Acts names own h = (of_role (get_or names.roles own []), slice_get-get_or names.roles own [] h)

pub tree_there : {d : Dialect} {G : Type 0} (kind : GraphKind d G) (names : Names_data) (graph : G) → IsSpelt d (kind.places graph) (kind.root graph) → HaveNames names (kind.places graph)
    → HasOpening d names (kind.own graph) → (tree : Tree d) × IsCanonicalTree kind names graph tree
tree_there {d} kind names graph z have opens =
    let o = opening_there d names (kind.own graph) opens in
    let b = canon_there d names (kind.places graph) (kind.root graph) z have in
    (part o.0 b.0, record { opening = o.1; body = b.1 })

-- ---- its opening is read again

-- the names with which it is read again have the roles; those of a protocol are as many as it has, and not too many
abbrev pub Suits : (d : Dialect) → (names before : Names_data) → (own : ℕ) → Type 0
Suits Talks names before own = (length names.roles ≡ own) × (length names.roles ≤ MOST_ROLES)
Suits Acts names before own = before.roles ≡ names.roles

pub roles_again : (d : Dialect) (names before : Names_data) (own : ℕ) (o : Opening d) → Suits d names before own → IsOpeningOf d names.roles own o → roles_in d before o ≡ names.roles
roles_again Talks names before own (of_roles f s xs) suits is = is
roles_again Acts names before own (of_role r) suits is = suits

own_again : (d : Dialect) (names before : Names_data) (own : ℕ) (o : Opening d) (b : Body d) → Sound names → Suits d names before own → IsOpeningOf d names.roles own o
    → own_spelt d (names_of d before (part o b)) (spelling_of d before (part o b)) ≡ own
own_again Talks names before own (of_roles f s xs) b sound suits is = ap length is ∙ suits.0
own_again Acts names before own (of_role r) b sound suits is = ap (λ z. number_or (place_of r z)) suits ∙ ap number_or (place_at names.roles own r sound.roles_differ is)

pub opening_fits : (d : Dialect) (names before : Names_data) (own : ℕ) (o : Opening d) → Sound names → Suits d names before own → IsOpeningOf d names.roles own o → OpeningFits d before o
opening_fits Talks names before own (of_roles f s xs) sound suits is = (ap differ is ∙ sound.roles_differ, subst (λ (z : List (List ℕ)). length z ≤ MOST_ROLES) (sym is) suits.1)
opening_fits Acts names before own (of_role r) sound suits is = subst (λ (z : List (List ℕ)). is_among r z ≡ true) (sym suits) (at_among names.roles own r is)

pub opening_words : (d : Dialect) (names : Names_data) (own : ℕ) (o : Opening d) → IsSound names → IsOpeningOf d names.roles own o → AreWordsInOpening d o
opening_words Talks names own (of_roles f s xs) sound is = subst (λ (z : List (List ℕ)). All (λ x. is_role_word x ≡ true) z) (sym is) sound.roles_are_words
opening_words Acts names own (of_role r) sound is = all_at is_role_word names.roles own r (sound_parts names sound).roles_are_words is

-- ---- its body is read again

-- how the labels are read again, with `first` before a body and with `before` before its canonical form: a label that is
-- written has room where the one that was read had, has its number, and those behind the canonical form are `after`
pub record AreReadAgain {d : Dialect} (P : List ℕ → Type 0) (R : List (List ℕ) → List (List ℕ) → Type 0) (w : Writing) (t : Body d) (first before after : List (List ℕ)) : Type 0 where
  pub has : HasNames w P t
  pub carries : Carries P R w
  pub begins : R first before
  pub ends : names_with before (labels_of d (canon w t [] 0)) ≡ after
  pub numbers : (l : List ℕ) → P l → number_or (place_of (label_as w l) after) ≡ (label_by_name w.numbers l).0

-- the tree is within the limits with these names before it, can be written, spells the graph, and leaves those names
pub record IsReadable {d : Dialect} {G : Type 0} (kind : GraphKind d G) (before after : Names_data) (graph : G) (tree : Tree d) : Type 0 where
  pub fits : Fits d before tree
  pub words : AreWords d tree
  pub graph_is : kind.graph_of before tree ≡ graph
  pub names_are : names_of d before tree ≡ after

canon_readable : {d : Dialect} {G : Type 0} (kind : GraphKind d G) → IsKind kind
    → (P : List ℕ → Type 0) (R : List (List ℕ) → List (List ℕ) → Type 0) (names before : Names_data) (after : List (List ℕ)) (graph : G) (o : Opening d)
    (z : IsSpelt d (kind.places graph) (kind.root graph))
    → AreReadAgain P R (writing (numbering d z.old z.spells.tree) names (kind.places graph)) z.spells.tree.body z.old.labels before.labels after → IsSound names → HaveNames names (kind.places graph)
    → Suits d names before (kind.own graph) → IsOpeningOf d names.roles (kind.own graph) o
    → IsReadable kind before (record { roles = names.roles; labels = after }) graph (part o (canon_of (numbering d z.old z.spells.tree) names (kind.places graph) z.spells.tree.body))
canon_readable {d} kind k P R names before after graph o z again sound have suits is =
    let t = z.spells.tree in
    let p : List Place = kind.places graph in
    let root : ℕ = kind.root graph in
    let first : List (List ℕ) = roles_in d z.old t.opening in
    let m = numbering d z.old t in
    let w : Writing = writing m names p in
    let c : Body d = canon_of m names p t.body in
    let new = numbering d before (part o c) in
    let tree : IsTreeOf d first z.old.labels m p root t.body = spelt_tree d p root z in
    let parts : Sound names = sound_parts names sound in
    let roles : roles_in d before o ≡ names.roles = roles_again d names before (kind.own graph) o suits is in
    let numbers : SameNumbers P w new = record {
      roles = λ s has. ap (λ z. record { 0 = number_or (place_of (role_as w s) z) }) roles ∙ ap (λ z. record { 0 = number_or z }) (role_place w s parts.roles_differ has);
      labels = λ l has. ap (λ z. record { 0 = number_or (place_of (label_as w l) z) }) again.ends ∙ ap (λ z. record { 0 = z }) (again.numbers l has);
      last = canon_acts w t.body [] 0;
    } in
    let same = canon_same P first z.old.labels m new p root t.body names tree again.has numbers in
    let places : kind.places (kind.graph_of before (part o c)) ≡ p
    = k.places before (part o c) ∙ ap (λ z. z ++ end_of (has_end d c)) (places_are new c [] 0) ∙ sym same.0 in
    let begins : kind.root (kind.graph_of before (part o c)) ≡ root = k.root before (part o c) ∙ sym same.1 in
    let own : kind.own (kind.graph_of before (part o c)) ≡ kind.own graph
    = k.own before (part o c) ∙ own_again d names before (kind.own graph) o c parts suits is in
    record {
      fits = record {
        opening = opening_fits d names before (kind.own graph) o parts suits is;
        body = canon_within P R first z.old.labels (roles_in d before o) before.labels m p root t.body names tree again.has
            (λ s has. ap (λ z. is_among (role_as w s) z) roles ∙ role_known w s has) again.carries again.begins;
      };
      words = record {
        opening = opening_words d names (kind.own graph) o sound is;
        body = canon_words first z.old.labels m p root t.body names tree have
            (λ s has. all_at is_role_word names.roles (role_by_name m s).0 (role_as w s) parts.roles_are_words (role_stands w s has))
            (λ l has. all_at is_word names.labels (label_by_name m l).0 (label_as w l) parts.labels_are_words (label_stands w l has));
      };
      graph_is = k.one (kind.graph_of before (part o c)) graph own places begins;
      names_are = ap (λ z. record { roles = z; labels = names_with before.labels (labels_of d c) }) roles ∙ ap (λ z. record { roles = names.roles; labels = z }) again.ends;
    }

pub readable : {d : Dialect} {G : Type 0} (kind : GraphKind d G) → IsKind kind
    → (P : List ℕ → Type 0) (R : List (List ℕ) → List (List ℕ) → Type 0) (names before : Names_data) (after : List (List ℕ)) (graph : G) (tree : Tree d)
    (z : IsSpelt d (kind.places graph) (kind.root graph))
    → AreReadAgain P R (writing (numbering d z.old z.spells.tree) names (kind.places graph)) z.spells.tree.body z.old.labels before.labels after → IsSound names → HaveNames names (kind.places graph)
    → Suits d names before (kind.own graph) → IsCanonicalTree kind names graph tree
    → IsReadable kind before (record { roles = names.roles; labels = after }) graph tree
readable {d} kind k P R names before after graph tree z again sound have suits c =
    subst (λ (b : Body d). IsReadable kind before (record { roles = names.roles; labels = after }) graph (part tree.opening b))
    (canon_is d names (kind.places graph) (kind.root graph) tree.body z have c.body)
    (canon_readable kind k P R names before after graph tree.opening z again sound have suits c.opening)

-- ---- its text is read again

as_read : {d : Dialect} {G : Type 0} (kind : GraphKind d G) (bytes : List ℕ) (at : ℕ) (before after : Names_data) (graph : G) (tree : Tree d) (until : ℕ) → IsReadable kind before after graph tree
    → SpellsOf kind bytes at before (names_of d before tree) (kind.graph_of before tree) until → SpellsOf kind bytes at before after graph until
as_read {d} {G} kind bytes at before after graph tree until w s =
    subst (λ (z : Names_data). SpellsOf kind bytes at before z graph until) w.names_are (subst (λ (z : G). SpellsOf kind bytes at before (names_of d before tree) z until) w.graph_is s)

pub text_is_read : {d : Dialect} {G : Type 0} (kind : GraphKind d G) (before after : Names_data) (graph : G) (text : List ℕ) (tree : Tree d) → IsReadable kind before after graph tree
    → text ≡ part_text d tree → SpellsOf kind text 0 before after graph (length text)
text_is_read {d} kind before after graph text tree w is =
    subst (λ (z : List ℕ). SpellsOf kind z 0 before after graph (length z)) (sym is)
    (as_read kind (part_text d tree) 0 before after graph tree (length (part_text d tree)) w (lone_tree_spelt kind before tree w.words w.fits))

-- at any place
pub text_is_read_anywhere : {d : Dialect} {G : Type 0} (kind : GraphKind d G) (bytes : List ℕ) (at : ℕ) (before after : Names_data) (graph : G) (text behind : List ℕ) (tree : Tree d)
    → IsReadable kind before after graph tree → text ≡ part_text d tree → drop at bytes ≡ text ++ behind
    → (ends_by_name d tree.body ≡ true → ends_a_name d (next_lexeme bytes (at + length text)).sign ≡ true) → SpellsOf kind bytes at before after graph (next_lexeme bytes (at + length text)).from
text_is_read_anywhere {d} kind bytes at before after graph text behind tree w is parts settled =
    subst (λ (z : List ℕ). SpellsOf kind bytes at before after graph (next_lexeme bytes (at + length z)).from) (sym is)
    (as_read kind bytes at before after graph tree (next_lexeme bytes (at + length (part_text d tree))).from w
    (tree_spelt kind bytes at before tree behind w.words w.fits (subst (λ (z : List ℕ). drop at bytes ≡ z ++ behind) is parts)
    (subst (λ (z : List ℕ). ends_by_name d tree.body ≡ true → ends_a_name d (next_lexeme bytes (at + length z)).sign ≡ true) is settled)))

-- what is read from it is printed as it again
pub printed_again : {d : Dialect} {G : Type 0} (kind : GraphKind d G) → IsMade kind → (before after others : Names_data) (graph other : G) (text : List ℕ) (until : ℕ)
    → SpellsOf kind text 0 before after graph (length text) → SpellsOf kind text 0 before others other until → IsCanonicalGraphText kind after graph text
    → IsCanonicalGraphText kind others other text
printed_again {d} {G} kind made before after others graph other text until s k c =
    let one = one_spelling kind made before text 0 after others graph other (length text) until s k in
    subst (λ (z : Names_data). IsCanonicalGraphText kind z other text) one.0 (subst (λ (z : G). IsCanonicalGraphText kind after z text) one.1 c)

-- ---- which graphs have a text

-- the body of a part that fits spells the places of its graph
pub tree_places : {d : Dialect} {G : Type 0} (kind : GraphKind d G) → IsKind kind → (old : Names_data) (t : Tree d) → Fits d old t
    → SpellsPlaces d (record { roles = roles_in d old t.opening; labels = old.labels }) t.body (kind.places (kind.graph_of old t)) (kind.root (kind.graph_of old t))
tree_places {d} kind k old t fits = record { fits = fits.body; places_are = k.places old t; start_is = k.root old t }

-- where a body spells the places of a graph, its part spells the graph
pub body_spells : {d : Dialect} {G : Type 0} (kind : GraphKind d G) → IsKind kind
    → (roles labels : ℕ) (graph : G) (h : HasBody d roles labels (kind.places graph) (kind.root graph)) (before : Names_data) (o : Opening d) → before.labels ≡ h.old.labels
    → Suits d h.old before (kind.own graph) → IsOpeningOf d h.old.roles (kind.own graph) o
    → SpellsOf kind (part_text d (part o h.body)) 0 before (names_of d before (part o h.body)) graph (length (part_text d (part o h.body)))
body_spells {d} {G} kind k roles labels graph h before o same suits is =
    let t : Tree d = part o h.body in
    let sound : Sound h.old = sound_parts h.old h.sound in
    let these : record { roles = roles_in d before o; labels = before.labels } ≡ h.old
    = ap (λ z. record { roles = z; labels = before.labels }) (roles_again d h.old before (kind.own graph) o suits is) ∙ ap (λ z. record { roles = h.old.roles; labels = z }) same in
    let body : SpellsPlaces d (record { roles = roles_in d before o; labels = before.labels }) h.body (kind.places graph) (kind.root graph)
    = subst (λ (z : Names_data). SpellsPlaces d z h.body (kind.places graph) (kind.root graph)) (sym these) h.spells in
    let fits : Fits d before t = record { opening = opening_fits d h.old before (kind.own graph) o sound suits is; body = body.fits } in
    let words : AreWords d t = record { opening = opening_words d h.old (kind.own graph) o h.sound is; body = h.words } in
    let own : kind.own (kind.graph_of before t) ≡ kind.own graph = k.own before t ∙ own_again d h.old before (kind.own graph) o h.body sound suits is in
    let graph_is : kind.graph_of before t ≡ graph
    = k.one (kind.graph_of before t) graph own (k.places before t ∙ sym body.places_are) (k.root before t ∙ sym body.start_is) in
    subst (λ (z : G). SpellsOf kind (part_text d t) 0 before (names_of d before t) z (length (part_text d t))) graph_is (lone_tree_spelt kind before t words fits)
