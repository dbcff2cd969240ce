-- The canonical text of a derivation spells it.
use Rattle.std.proofs.Common.{◌≡◌, ℕ, suc, ◌+◌, ◌<◌, ◌≤◌, List, [], ◌∷◌, ◌++◌, length, map, drop, get_or, Bool, true, Some, refl, sym, ap, ◌∙◌, subst, append-nil, length-append}
use Rattle.std.proofs.Common.{length-drop, arith}
use Rattle.std.proofs.lemmas.List.{length-map, map-append}
use Rattle.std.proofs.lemmas.List.Elements.{All-head, All-tail, All-from_recursion}
use Rattle.std.proofs.lemmas.Option.{slice_get-get_or, get_or_from_slice_get}
use Rattle.std.specs.List.{All, AllByRecursion, AllPairs, flat_map, list_all}
use Rattle.std.specs.Prelude.{◌≢◌}
use Rattle.rs_model.specs.Data.{Names_data}
use Rattle.rs_model.specs.declared.graph.Label.{Label}
use Rattle.rs_model.specs.declared.graph.Role.{Role}
use Rattle.rs_model.specs.declared.limits.TheConstants.{MOST_BOUND, MOST_LABELS, MOST_CANDIDATES, MOST_NUMBER}
use Rattle.rs_model.specs.declared.machines.Act.{Act}
use Rattle.rs_model.specs.declared.machines.Act.TheVariants.{Puts, Takes}
use Rattle.rs_model.specs.declared.values.Sort.{Sort}
use Rattle.rs_model.specs.declared.values.Sort.TheVariants as sort
use Rattle.rs_derive.specs.Data.{DNode_data, Derivation_data}
use Rattle.rs_text.specs.Arms.{sort_or_unit}
use Rattle.rs_text.specs.Lexemes.{Lexeme}
use Rattle.rs_text.specs.Lexing.{Lexed, next_lexeme}
use Rattle.rs_text.specs.Names.{is_among, place_of, number_or}
use Rattle.rs_text.specs.NamePlaces.{StandsFirst, name_at, text_or_none}
use Rattle.rs_text.specs.Shown.{shown_sort}
use Rattle.rs_text.specs.Sound.{IsSound}
use Rattle.rs_text.specs.Words.{is_word, is_role_word}
use Rattle.rs_text.proofs.Naming.{place_law, among}
use Rattle.rs_text.proofs.Nexts.{exists, are_lexed, lexed_are}
use Rattle.rs_text.proofs.Basics.{two_true}
use Rattle.rs_text.proofs.Written.{written_cut}
use Rattle.rs_derivations.specs.Canonical.{tree_of_act, tree_of_node, tree_of, canonical_text}
use Rattle.rs_derivations.specs.declared.formats.Format.TheVariants.{Two}
use Rattle.rs_derivations.specs.Derivations.{acts_of, acts_of_number, labels_of_acts, peers_of_acts, names_of, act_of_tree, node_of_tree, derivation_of}
use Rattle.rs_text.specs.KnownNames.{role_named, label_named}
use Rattle.rs_derivations.specs.PendingLists.{lists_of, list_number}
use Rattle.rs_derivations.specs.Numbers.{HasSmallNumbers, AreSmall}
use Rattle.rs_derivations.specs.Printable.{peer_of, label_number, IsPrintable}
use Rattle.rs_derivations.specs.Spells.{Fits, SpellsDerivation}
use Rattle.rs_derivations.specs.Trees.{ActTree, NodeTree, DerivationTree, derivation_signs}
use Rattle.rs_derivations.proofs.KnownNames.{Known, grown_same, known_both}
use Rattle.rs_derivations.proofs.Listed.{IsListed, all_listed, each_list, few_lists, found_again, number_within}
use Rattle.rs_derivations.proofs.Writable.{spelt_printable}
use Rattle.rs_derivations.proofs.Printed.{AreActsWritable, AreListsWritable, AreNumbersWritable, AreNodesWritable, IsTreeWritable, written}

-- ---- names by place

name_is : (names : List (List ℕ)) (k : ℕ) → k < length names → name_at names k ≡ get_or names k []
name_is names k h = ap text_or_none (slice_get-get_or names k [] h)

pub place_at : (names : List (List ℕ)) (k : ℕ) → AllPairs (λ x y. x ≢ y) names → k < length names → place_of (name_at names k) names ≡ Some k
place_at names k differ h =
    let first : StandsFirst (get_or names k []) names k = record {
      present = slice_get-get_or names k [] h;
      first = λ j lt e. differ j k [] lt h (get_or_from_slice_get names j (get_or names k []) [] e);
    } in
    ap (λ z. place_of z names) (name_is names k h) ∙ (place_law (get_or names k []) names k).1 first

word_at : (test : List ℕ → Bool) (names : List (List ℕ)) (k : ℕ) → All (λ x. test x ≡ true) names → k < length names → test (name_at names k) ≡ true
word_at test names k words h = ap test (name_is names k h) ∙ words k [] h

there : (names : List (List ℕ)) (k : ℕ) → AllPairs (λ x y. x ≢ y) names → k < length names → is_among (name_at names k) names ≡ true
there names k differ h = among names (name_at names k) 0 k (place_at names k differ h)

-- ---- acts

sort_back : (s : Sort) → sort_or_unit (shown_sort s) ≡ s
sort_back sort.Unit = refl
sort_back sort.Flag = refl
sort_back sort.Natural = refl
sort_back sort.Whole = refl
sort_back sort.Octets = refl
sort_back sort.Numbers = refl

role_back : (names : Names_data) (p : Role) → IsSound names → p.0 < length names.roles → role_named names (name_at names.roles p.0) ≡ p
role_back names p sound h = let role : ℕ → Role = λ n. record { 0 = n } in ap (λ z. role (number_or z)) (place_at names.roles p.0 sound.roles_differ h)

label_back : (names : Names_data) (l : Label) → IsSound names → l.0 < length names.labels → label_named names (name_at names.labels l.0) ≡ l
label_back names l sound h = let label : ℕ → Label = λ n. record { 0 = n } in ap (λ z. label (number_or z)) (place_at names.labels l.0 sound.labels_differ h)

abbrev pub IsNamed : Names_data → Act → Type 0
IsNamed names a = (peer_of a < length names.roles) × (label_number a < length names.labels)

act_back : (names : Names_data) (a : Act) → IsSound names → IsNamed names a → act_of_tree names (tree_of_act names a) ≡ a
act_back names (Puts p l s) sound h =
    ap (λ z. Puts z (label_named names (name_at names.labels l.0)) (sort_or_unit (shown_sort s))) (role_back names p sound h.0)
    ∙ ap (λ z. Puts p z (sort_or_unit (shown_sort s))) (label_back names l sound h.1) ∙ ap (λ z. Puts p l z) (sort_back s)
act_back names (Takes p l s) sound h =
    ap (λ z. Takes z (label_named names (name_at names.labels l.0)) (sort_or_unit (shown_sort s))) (role_back names p sound h.0)
    ∙ ap (λ z. Takes p z (sort_or_unit (shown_sort s))) (label_back names l sound h.1) ∙ ap (λ z. Takes p l z) (sort_back s)

act_peer : (names : Names_data) (a : Act) → (tree_of_act names a).peer ≡ name_at names.roles (peer_of a)
act_peer names (Puts p l s) = refl
act_peer names (Takes p l s) = refl

act_label : (names : Names_data) (a : Act) → (tree_of_act names a).label ≡ name_at names.labels (label_number a)
act_label names (Puts p l s) = refl
act_label names (Takes p l s) = refl

abbrev pub AreNamed : Names_data → List Act → Type 0
AreNamed names [] = Unit {0}
AreNamed names (a ∷ acts) = IsNamed names a × AreNamed names acts

-- what a text needs of pending acts
abbrev pub IsShown : Names_data → List Act → Type 0
IsShown names acts = AreNamed names acts × (length acts ≤ MOST_BOUND)

abbrev pub AreShown : Names_data → List DNode_data → Type 0
AreShown names ns = AllByRecursion (λ (n : DNode_data). IsShown names n.pending) ns

all_parts : (P : Act → Type 0) (xs ys : List Act) → All P (xs ++ ys) → All P ys
all_parts P [] ys h = h
all_parts P (x ∷ xs) ys h = all_parts P xs ys (All-tail P x (xs ++ ys) h)

acts_named : (names : Names_data) (acts more : List Act) → All (λ a. peer_of a < length names.roles) (acts ++ more) → All (λ a. label_number a < length names.labels) (acts ++ more)
    → AreNamed names acts
acts_named names [] more p l = tt
acts_named names (a ∷ acts) more p l = (
  (All-head (λ a. peer_of a < length names.roles) a (acts ++ more) p, All-head (λ a. label_number a < length names.labels) a (acts ++ more) l),
  acts_named names acts more (All-tail (λ a. peer_of a < length names.roles) a (acts ++ more) p) (All-tail (λ a. label_number a < length names.labels) a (acts ++ more) l),
)

abbrev pendings : List DNode_data → List Act
pendings ns = flat_map (λ (n : DNode_data). n.pending) ns

abbrev IsShort : DNode_data → Type 0
IsShort n = length n.pending ≤ MOST_BOUND

nodes_shown : (names : Names_data) (ns : List DNode_data) → All (λ a. peer_of a < length names.roles) (pendings ns) → All (λ a. label_number a < length names.labels) (pendings ns) → All IsShort ns
    → AreShown names ns
nodes_shown names [] p l s = tt
nodes_shown names (n ∷ ns) p l s = (
  (acts_named names n.pending (pendings ns) p l, All-head IsShort n ns s),
  nodes_shown names ns (all_parts (λ a. peer_of a < length names.roles) n.pending (pendings ns) p)
      (all_parts (λ a. label_number a < length names.labels) n.pending (pendings ns) l) (All-tail IsShort n ns s),
)

pub shown : (names : Names_data) (d : Derivation_data) → IsPrintable names d → AreShown names d.nodes
shown names d p = nodes_shown names d.nodes p.roles.peers p.labels p.short_lists

-- ---- lists

abbrev lists_in : List DNode_data → List (List Act)
lists_in ns = map (λ (n : DNode_data). n.pending) ns

abbrev trees_of : Names_data → List (List Act) → List (List ActTree)
trees_of names lists = map (λ acts. map (tree_of_act names) acts) lists

-- each list that stands before the nodes has acts, and can be shown
abbrev IsLine : Names_data → List Act → Type 0
IsLine names acts = IsShown names acts × (0 < length acts)

with_acts : (names : Names_data) (ns : List DNode_data) → AreShown names ns → AllByRecursion (λ acts. 0 < length acts → IsLine names acts) (lists_in ns)
with_acts names [] h = tt
with_acts names (n ∷ ns) h = (λ some. (h.0, some), with_acts names ns h.1)

lines : (names : Names_data) (d : Derivation_data) → IsPrintable names d → AllByRecursion (IsLine names) (lists_of d)
lines names d p = each_list (IsLine names) [] (lists_in d.nodes) tt (with_acts names d.nodes (shown names d p))

pub listed : (d : Derivation_data) → AllByRecursion (IsListed (lists_of d)) (lists_in d.nodes)
listed d = all_listed [] (lists_in d.nodes)

few : (names : Names_data) (d : Derivation_data) → IsPrintable names d → length (lists_of d) ≤ MOST_CANDIDATES
few names d p =
    let most = p.nodes in
    let l = few_lists [] (lists_in d.nodes) in
    let m = length-map d.nodes (λ (n : DNode_data). n.pending) in
    omega arith

-- ---- back from trees

acts_back : (names : Names_data) (acts : List Act) → IsSound names → AreNamed names acts → map (act_of_tree names) (map (tree_of_act names) acts) ≡ acts
acts_back names [] sound h = refl
acts_back names (a ∷ acts) sound h = ap (λ z. z ∷ map (act_of_tree names) (map (tree_of_act names) acts)) (act_back names a sound h.0) ∙ ap (λ z. a ∷ z) (acts_back names acts sound h.1)

pending_back : (names : Names_data) (lists : List (List Act)) (acts : List Act) → IsSound names → AreNamed names acts → IsListed lists acts
    → map (act_of_tree names) (acts_of_number (trees_of names lists) (list_number lists acts)) ≡ acts
pending_back names lists acts sound h l = ap (λ z. map (act_of_tree names) z) (found_again (λ xs. map (tree_of_act names) xs) lists acts refl l) ∙ acts_back names acts sound h

nodes_back : (names : Names_data) (lists : List (List Act)) (ns : List DNode_data) → IsSound names → AreShown names ns → AllByRecursion (IsListed lists) (lists_in ns)
    → map (node_of_tree names Two (trees_of names lists)) (map (tree_of_node lists) ns) ≡ ns
nodes_back names lists [] sound h l = refl
nodes_back names lists (n ∷ ns) sound h l =
    ap (λ z. record { state = n.state; pending = z; above = n.above; rank = n.rank; next = n.next } ∷ map (node_of_tree names Two (trees_of names lists)) (map (tree_of_node lists) ns))
    (pending_back names lists n.pending sound h.0.0 l.0)
    ∙ ap (λ z. n ∷ z) (nodes_back names lists ns sound h.1 l.1)

-- the canonical tree spells the derivation
pub spells_the_derivation : (names : Names_data) (d : Derivation_data) → IsSound names → IsPrintable names d → derivation_of names (tree_of names d) ≡ d
spells_the_derivation names d sound p =
    ap (λ z. record { role = z; bound = d.bound; nodes = map (node_of_tree names Two (trees_of names (lists_of d))) (map (tree_of_node (lists_of d)) d.nodes) }) (role_back names d.role sound p.roles.role)
    ∙ ap (λ z. record { role = d.role; bound = d.bound; nodes = z }) (nodes_back names (lists_of d) d.nodes sound (shown names d p) (listed d))

-- ---- names that are known

abbrev AreActsKnown : Names_data → List ActTree → Type 0
AreActsKnown names acts = Known names.roles (peers_of_acts acts) × Known names.labels (labels_of_acts acts)

acts_known : (names : Names_data) (acts : List Act) → IsSound names → AreNamed names acts → AreActsKnown names (map (tree_of_act names) acts)
acts_known names [] sound h = (refl, refl)
acts_known names (a ∷ acts) sound h =
    let k = acts_known names acts sound h.1 in
    let p : is_among (tree_of_act names a).peer names.roles ≡ true = ap (λ z. is_among z names.roles) (act_peer names a) ∙ there names.roles (peer_of a) sound.roles_differ h.0.0 in
    let l : is_among (tree_of_act names a).label names.labels ≡ true = ap (λ z. is_among z names.labels) (act_label names a) ∙ there names.labels (label_number a) sound.labels_differ h.0.1 in
    (two_true (is_among (tree_of_act names a).peer names.roles) _ p k.0, two_true (is_among (tree_of_act names a).label names.labels) _ l k.1)

abbrev all_acts : List (List ActTree) → List ActTree
all_acts lists = flat_map (λ acts. acts) lists

lists_known : (names : Names_data) (lists : List (List Act)) → IsSound names → AllByRecursion (IsLine names) lists → AreActsKnown names (all_acts (trees_of names lists))
lists_known names [] sound h = (refl, refl)
lists_known names (acts ∷ lists) sound h =
    let a = acts_known names acts sound h.0.0.0 in
    let b = lists_known names lists sound h.1 in
    let first : List ActTree = map (tree_of_act names) acts in
    let rest : List ActTree = all_acts (trees_of names lists) in (
      subst (λ (z : List (List ℕ)). Known names.roles z) (sym (map-append (λ (t : ActTree). t.peer) first rest)) (known_both names.roles (peers_of_acts first) (peers_of_acts rest) a.0 b.0),
      subst (λ (z : List (List ℕ)). Known names.labels z) (sym (map-append (λ (t : ActTree). t.label) first rest)) (known_both names.labels (labels_of_acts first) (labels_of_acts rest) a.1 b.1),
    )

tree_known : (names : Names_data) (d : Derivation_data) → IsSound names → IsPrintable names d → AreActsKnown names (acts_of (tree_of names d))
tree_known names d sound p = lists_known names (lists_of d) sound (lines names d p)

-- the canonical text has no new labels
pub no_new_labels : (names : Names_data) (d : Derivation_data) → IsSound names → IsPrintable names d → names_of names (tree_of names d) ≡ names
no_new_labels names d sound p =
    ap (λ z. record { roles = names.roles; labels = z }) (grown_same (labels_of_acts (acts_of (tree_of names d))) names.labels (tree_known names d sound p).1)

-- ---- the tree fits

lists_with_acts : (names : Names_data) (lists : List (List Act)) → AllByRecursion (IsLine names) lists → AllByRecursion (λ acts. 1 ≤ length acts) (trees_of names lists)
lists_with_acts names [] h = tt
lists_with_acts names (acts ∷ lists) h = (let l = length-map acts (tree_of_act names) in let s = h.0.1 in omega arith, lists_with_acts names lists h.1)

lists_short : (names : Names_data) (lists : List (List Act)) → AllByRecursion (IsLine names) lists → AllByRecursion (λ acts. length acts ≤ MOST_BOUND) (trees_of names lists)
lists_short names [] h = tt
lists_short names (acts ∷ lists) h = (let l = length-map acts (tree_of_act names) in let s = h.0.0.1 in omega arith, lists_short names lists h.1)

lists_there : (lists : List (List Act)) (count : ℕ) (ns : List DNode_data) → count ≡ length lists → AllByRecursion (IsListed lists) (lists_in ns)
    → AllByRecursion (λ (n : NodeTree Two). n.pending ≤ count) (map (tree_of_node lists) ns)
lists_there lists count [] e h = tt
lists_there lists count (n ∷ ns) e h = (let w = number_within lists n.pending h.0 in omega arith, lists_there lists count ns e h.1)

fits : (old names : Names_data) (d : Derivation_data) → IsSound names → IsPrintable names d → old.roles ≡ names.roles → length (names_of old (tree_of names d)).labels ≤ MOST_LABELS
    → Fits old (tree_of names d)
fits old names d sound p roles small =
    let t : DerivationTree = tree_of names d in
    let size = length-map d.nodes (tree_of_node (lists_of d)) in
    let some = p.some in
    let all = p.nodes in
    let l = lines names d p in
    let trees : List (List ActTree) = trees_of names (lists_of d) in
    record {
      formed = record {
        bound = p.bound;
        some = omega arith;
        lists = All-from_recursion (λ acts. 1 ≤ length acts) trees (lists_with_acts names (lists_of d) l);
        numbers = All-from_recursion (λ (n : NodeTree Two). n.pending ≤ length trees) (map (tree_of_node (lists_of d)) d.nodes)
            (lists_there (lists_of d) (length trees) d.nodes (length-map (lists_of d) (λ acts. map (tree_of_act names) acts)) (listed d));
      };
      roles = subst (λ (z : List (List ℕ)). list_all (λ x. is_among x z) (name_at names.roles d.role.0 ∷ peers_of_acts (acts_of t)) ≡ true) (sym roles)
          (two_true (is_among (name_at names.roles d.role.0) names.roles) _ (there names.roles d.role.0 sound.roles_differ p.roles.role) (tree_known names d sound p).0);
      labels = small;
      acts = All-from_recursion (λ acts. length acts ≤ MOST_BOUND) trees (lists_short names (lists_of d) l);
      nodes = omega arith;
    }

-- ---- what can be written

acts_words : (names : Names_data) (acts : List Act) → IsSound names → AreNamed names acts → AreActsWritable (map (tree_of_act names) acts)
acts_words names [] sound h = tt
acts_words names (a ∷ acts) sound h = (
  (
    ap is_role_word (act_peer names a) ∙ word_at is_role_word names.roles (peer_of a) sound.roles_are_words h.0.0,
    ap is_word (act_label names a)
        ∙ word_at is_word names.labels (label_number a) sound.labels_are_words h.0.1,
  ),
  acts_words names acts sound h.1,
)

numbers_small : (ns : List ℕ) → All (λ k. k ≤ MOST_NUMBER) ns → AreNumbersWritable ns
numbers_small [] h = tt
numbers_small (n ∷ ns) h = (All-head (λ k. k ≤ MOST_NUMBER) n ns h, numbers_small ns (All-tail (λ k. k ≤ MOST_NUMBER) n ns h))

lists_words : (names : Names_data) (n : ℕ) (lists : List (List Act)) → IsSound names → AllByRecursion (IsLine names) lists → n + length lists ≤ MOST_CANDIDATES + 1
    → AreListsWritable n (trees_of names lists)
lists_words names n [] sound h le = tt
lists_words names n (acts ∷ lists) sound h le = (omega arith, acts_words names acts sound h.0.0.0, lists_words names (suc n) lists sound h.1 (omega arith))

nodes_words : (lists : List (List Act)) (n : ℕ) (ns : List DNode_data) → length lists ≤ MOST_CANDIDATES → AllByRecursion (IsListed lists) (lists_in ns) → All HasSmallNumbers ns
    → n + length ns ≤ MOST_CANDIDATES
    → AreNodesWritable Two n (map (tree_of_node lists) ns)
nodes_words lists n [] few l s le = tt
nodes_words lists n (x ∷ ns) few l s le =
    let small = All-head HasSmallNumbers x ns s in
    let within = number_within lists x.pending l.0 in (
      omega arith,
      record { state = small.state; pending = omega arith; above = small.above; rank = small.rank; next = numbers_small x.next small.next },
      nodes_words lists (suc n) ns few l.1 (All-tail HasSmallNumbers x ns s) (omega arith),
    )

writable : (names : Names_data) (d : Derivation_data) → IsSound names → IsPrintable names d → AreSmall d → IsTreeWritable (tree_of names d)
writable names d sound p small =
    let most = p.bound.1 in
    let all = p.nodes in
    let f = few names d p in
    record {
      role = word_at is_role_word names.roles d.role.0 sound.roles_are_words p.roles.role;
      bound = omega arith;
      lists = lists_words names 1 (lists_of d) sound (lines names d p) (omega arith);
      nodes = nodes_words (lists_of d) 0 d.nodes f (listed d) small (omega arith);
    }

-- ---- and so it spells the derivation

spells_with : (ls : List Lexeme) (bytes : List ℕ) (at : ℕ) (old names : Names_data) (d : Derivation_data) (rest : List ℕ) → IsTreeWritable (tree_of names d) → Fits old (tree_of names d)
    → drop at bytes ≡ canonical_text names d ++ rest → Lexed bytes (at + length (canonical_text names d)) ls
    → SpellsDerivation bytes at old (names_of old (tree_of names d)) (derivation_of (names_of old (tree_of names d)) (tree_of names d)) (next_lexeme bytes (at + length (canonical_text names d))).from
spells_with [] bytes at old names d rest w f parts lexed = absurd lexed
spells_with (l ∷ ls) bytes at old names d rest w f parts lexed =
    let c = written_cut bytes at (derivation_signs (tree_of names d)) (canonical_text names d) rest (l ∷ ls) parts (written (tree_of names d) rest w) lexed in
    record {
      tree = tree_of names d;
      lexemes = c.cut;
      behind = l;
      others = ls;
      tokens = lexed_are bytes (c.cut ++ l ∷ ls) at c.lexed;
      spelt = c.signs_are;
      fits = f;
      names_are = refl;
      derivation_is = refl;
      goes_on = ap (λ (x : Lexeme). x.from) (sym lexed.0);
    }

reaches : (bytes : List ℕ) (at : ℕ) (text rest : List ℕ) → 0 < length text → drop at bytes ≡ text ++ rest → at + length text ≤ length bytes
reaches bytes at text rest some parts =
    let size : length (drop at bytes) ≡ length text + length rest = rw parts (length-append text rest) in
    let all = length-drop at bytes in
    omega arith

-- with any older names that have its roles, where the labels stay few
pub read_with_older : (old names : Names_data) (d : Derivation_data) (bytes : List ℕ) (at : ℕ) (rest : List ℕ) → IsSound names → IsPrintable names d → AreSmall d → old.roles ≡ names.roles
    → length (names_of old (tree_of names d)).labels ≤ MOST_LABELS
    → drop at bytes ≡ canonical_text names d ++ rest
    → SpellsDerivation bytes at old (names_of old (tree_of names d)) (derivation_of (names_of old (tree_of names d)) (tree_of names d)) (next_lexeme bytes (at + length (canonical_text names d))).from
read_with_older old names d bytes at rest sound p small roles few parts =
    let t = exists bytes (at + length (canonical_text names d)) (reaches bytes at (canonical_text names d) rest (omega arith) parts) in
    spells_with t.0 bytes at old names d rest (writable names d sound p small) (fits old names d sound p roles few) parts (are_lexed bytes t.0 (at + length (canonical_text names d)) t.1)

pub read_again : (old names : Names_data) (d : Derivation_data) (bytes : List ℕ) (at : ℕ) (rest : List ℕ) → IsSound names → IsPrintable names d → AreSmall d → length names.labels ≤ MOST_LABELS
    → names_of old (tree_of names d) ≡ names → drop at bytes ≡ canonical_text names d ++ rest
    → SpellsDerivation bytes at old names d (next_lexeme bytes (at + length (canonical_text names d))).from
read_again old names d bytes at rest sound p small few e parts =
    let few' : length (names_of old (tree_of names d)).labels ≤ MOST_LABELS = subst (λ (z : Names_data). length z.labels ≤ MOST_LABELS) (sym e) few in
    let until : ℕ = (next_lexeme bytes (at + length (canonical_text names d))).from in
    let spelt = read_with_older old names d bytes at rest sound p small (ap (λ (z : Names_data). z.roles) e) few' parts in
    subst (λ (z : Derivation_data). SpellsDerivation bytes at old names z until) (spells_the_derivation names d sound p)
    (subst (λ (z : Names_data). SpellsDerivation bytes at old z (derivation_of z (tree_of names d)) until) e spelt)

-- what a text of either format spells is spelt by its canonical text too
pub spelt_canonically : (old names : Names_data) (bytes : List ℕ) (at until : ℕ) (d : Derivation_data) → SpellsDerivation bytes at old names d until → IsSound names → AreSmall d
    → SpellsDerivation (canonical_text names d) 0 names names d (next_lexeme (canonical_text names d) (length (canonical_text names d))).from
spelt_canonically old names bytes at until d s sound small =
    let text : List ℕ = canonical_text names d in
    let printable = spelt_printable old names bytes at until d s in
    let few : length names.labels ≤ MOST_LABELS = subst (λ (z : Names_data). length z.labels ≤ MOST_LABELS) (sym s.names_are) s.fits.labels in
    let size : 0 + length text ≡ length text = omega arith in
    subst (λ (z : ℕ). SpellsDerivation text 0 names names d (next_lexeme text z).from) size
    (read_again names names d text 0 [] sound printable small few (no_new_labels names d sound printable) (sym (append-nil text)))
