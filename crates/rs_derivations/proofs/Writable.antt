-- What is spelt can be printed.
use Rattle.std.proofs.Common.{◌≡◌, ◌⊎◌, inl, inr, ℕ, zero, suc, slice_index_or, ◌<◌, ◌≤◌, List, [], ◌∷◌, length, map, Bool, true, false, ◌||◌, eqb, cond, Option, Some, None, refl, sym, ap, ◌∙◌, subst, arith}
use Rattle.std.proofs.lemmas.Bool.{eqb-true}
use Rattle.std.proofs.lemmas.List.{length-map, map-append}
use Rattle.std.proofs.lemmas.List.Elements.{All-append, All-cons, All-head, All-tail, All-from_recursion}
use Rattle.std.specs.List.{All, flat_map, list_all, list_any}
use Rattle.std.specs.Set.{distinct_count}
use Rattle.rs_model.specs.Data.{Names_data}
use Rattle.rs_model.specs.declared.limits.TheConstants.{MOST_BOUND}
use Rattle.rs_model.specs.declared.machines.Act.{Act}
use Rattle.rs_prefix.specs.declared.earliest.ActKind.TheVariants as act
use Rattle.rs_text.specs.Names.{is_among, place_of, number_or}
use Rattle.rs_text.proofs.Naming.{not_among}
use Rattle.rs_text.proofs.Numbers.{place_below}
use Rattle.rs_derivations.proofs.KnownNames.{grown_known, Known, known_parts}
use Rattle.std.proofs.lemmas.Map.Keys.{IsDistinct-cons}
use Rattle.std.proofs.lemmas.Map.Steps.{length-le_from_distinct_below}
use Rattle.std.specs.List.{IsDistinct, AllByRecursion}
use Rattle.std.specs.Set.{unique_keys}
use Rattle.rs_model.specs.declared.graph.Label.{Label}
use Rattle.rs_model.specs.declared.graph.Role.{Role}
use Rattle.rs_model.specs.declared.values.Sort.{Sort}
use Rattle.rs_prefix.specs.declared.earliest.ActKind.{ActKind}
use Rattle.rs_text.proofs.Basics.{both}
use Rattle.rs_text.specs.Arms.{sort_or_unit}
use Rattle.rs_derive.specs.Data.{DNode_data, Derivation_data}
use Rattle.rs_derivations.specs.declared.formats.Format.{Format}
use Rattle.rs_derivations.specs.declared.formats.Format.TheVariants.{One, Two}
use Rattle.rs_derivations.specs.Derivations.{acts_of, acts_of_number, acts_of_pending, written_lists, act_of_kind, labels_of_acts, peers_of_acts, act_of_tree}
use Rattle.rs_text.specs.KnownNames.{role_named, label_named}
use Rattle.rs_derivations.specs.Derivations.{node_of_tree, derivation_of, names_of}
use Rattle.rs_derivations.specs.Printable.{peer_of, label_number, IsPrintable}
use Rattle.rs_derivations.specs.Spells.{Fits, SpellsDerivation}
use Rattle.rs_derivations.specs.Trees.{ActTree, ListsTree, NodeTree, DerivationTree}

-- ---- places

below_by : (names : List (List ℕ)) (x : List ℕ) (o : Option ℕ) → place_of x names ≡ o → is_among x names ≡ true → number_or (place_of x names) < length names
below_by names x None e h = absurd (cc (sym h ∙ not_among names x 0 e))
below_by names x (Some n) e h = subst (λ (z : Option ℕ). number_or z < length names) (sym e) (place_below names x n e)

-- the place of a name that is there is one
pub below : (names : List (List ℕ)) (x : List ℕ) → is_among x names ≡ true → number_or (place_of x names) < length names
below names x h = below_by names x (place_of x names) refl h

peer_made : (k : ActKind) (p : Role) (l : Label) (s : Sort) → peer_of (act_of_kind k p l s) ≡ p.0
peer_made act.Send p l s = refl
peer_made act.Receive p l s = refl

label_made : (k : ActKind) (p : Role) (l : Label) (s : Sort) → label_number (act_of_kind k p l s) ≡ l.0
label_made act.Send p l s = refl
label_made act.Receive p l s = refl

peer_is : (names : Names_data) (a : ActTree) → peer_of (act_of_tree names a) ≡ number_or (place_of a.peer names.roles)
peer_is names a = peer_made a.kind (role_named names a.peer) (label_named names a.label) (sort_or_unit a.sort)

label_is : (names : Names_data) (a : ActTree) → label_number (act_of_tree names a) ≡ number_or (place_of a.label names.labels)
label_is names a = label_made a.kind (role_named names a.peer) (label_named names a.label) (sort_or_unit a.sort)

-- ---- acts and nodes

nothing : (P : Act → Type 0) → All P []
nothing P = λ k d h. absurd (omega arith)

peers_below : (names : Names_data) (acts : List ActTree) → Known names.roles (peers_of_acts acts) → All (λ a. peer_of a < length names.roles) (map (act_of_tree names) acts)
peers_below names [] h = nothing (λ a. peer_of a < length names.roles)
peers_below names (a ∷ acts) h =
    let k = both (is_among a.peer names.roles) (list_all (λ x. is_among x names.roles) (peers_of_acts acts)) h in
    All-cons (λ a. peer_of a < length names.roles) (act_of_tree names a) (map (act_of_tree names) acts)
    (subst (λ (z : ℕ). z < length names.roles) (sym (peer_is names a)) (below names.roles a.peer k.0))
    (peers_below names acts k.1)

labels_below : (names : Names_data) (acts : List ActTree) → Known names.labels (labels_of_acts acts) → All (λ a. label_number a < length names.labels) (map (act_of_tree names) acts)
labels_below names [] h = nothing (λ a. label_number a < length names.labels)
labels_below names (a ∷ acts) h =
    let k = both (is_among a.label names.labels) (list_all (λ x. is_among x names.labels) (labels_of_acts acts)) h in
    All-cons (λ a. label_number a < length names.labels) (act_of_tree names a) (map (act_of_tree names) acts)
    (subst (λ (z : ℕ). z < length names.labels) (sym (label_is names a)) (below names.labels a.label k.0))
    (labels_below names acts k.1)

-- what a text needs of acts
abbrev AreFine : Names_data → List ActTree → Type 0
AreFine names acts = Known names.roles (peers_of_acts acts) × Known names.labels (labels_of_acts acts) × (length acts ≤ MOST_BOUND)

abbrev all_acts : List (List ActTree) → List ActTree
all_acts lists = flat_map (λ acts. acts) lists

-- each list of a text is fine where all its acts are known and none is long
lists_fine : (names : Names_data) (lists : List (List ActTree)) → Known names.roles (peers_of_acts (all_acts lists)) → Known names.labels (labels_of_acts (all_acts lists))
    → All (λ acts. length acts ≤ MOST_BOUND) lists → AllByRecursion (AreFine names) lists
lists_fine names [] p l s = tt
lists_fine names (acts ∷ lists) p l s =
    let ps = known_parts names.roles (peers_of_acts acts) (peers_of_acts (all_acts lists)) (subst (λ (z : List (List ℕ)). Known names.roles z) (map-append (λ (t : ActTree). t.peer) acts (all_acts lists)) p) in
    let ls = known_parts names.labels (labels_of_acts acts) (labels_of_acts (all_acts lists)) (subst (λ (z : List (List ℕ)). Known names.labels z) (map-append (λ (t : ActTree). t.label) acts (all_acts lists)) l) in (
      (ps.0, ls.0, All-head (λ acts. length acts ≤ MOST_BOUND) acts lists s),
      lists_fine names lists ps.1 ls.1 (All-tail (λ acts. length acts ≤ MOST_BOUND) acts lists s),
    )

-- what holds of no acts and of each of these lists holds of the list with any number
each_place : (P : List ActTree → Type 0) (lists : List (List ActTree)) (k : ℕ) → P [] → AllByRecursion P lists → P (slice_index_or lists k [])
each_place P [] k none h = none
each_place P (acts ∷ lists) zero none h = h.0
each_place P (acts ∷ lists) (suc k) none h = each_place P lists k none h.1

pub each_number : (P : List ActTree → Type 0) (lists : List (List ActTree)) (n : ℕ) → P [] → AllByRecursion P lists → P (acts_of_number lists n)
each_number P lists zero none h = none
each_number P lists (suc k) none h = each_place P lists k none h

each_node_with : (P : List ActTree → Type 0) (lists : List (List ActTree)) (ns : List (NodeTree Two)) → P [] → AllByRecursion P lists
    → AllByRecursion (λ (n : NodeTree Two). P (acts_of_number lists n.pending)) ns
each_node_with P lists [] none h = tt
each_node_with P lists (n ∷ ns) none h = (each_number P lists n.pending none h, each_node_with P lists ns none h)

each_node_has : (P : List ActTree → Type 0) (ns : List (NodeTree One)) → AllByRecursion P (map (λ (n : NodeTree One). n.pending) ns) → AllByRecursion (λ (n : NodeTree One). P n.pending) ns
each_node_has P [] h = tt
each_node_has P (n ∷ ns) h = (h.0, each_node_has P ns h.1)

-- what holds of no acts and of each list that a text writes out holds of the acts of each node
each_node : (P : List ActTree → Type 0) (f : Format) (lists : ListsTree f) (ns : List (NodeTree f)) → P [] → AllByRecursion P (written_lists f lists ns)
    → AllByRecursion (λ (n : NodeTree f). P (acts_of_pending f lists n.pending)) ns
each_node P One lists ns none h = each_node_has P ns h
each_node P Two lists ns none h = each_node_with P lists ns none h

abbrev acts_in : Names_data → (f : Format) → ListsTree f → List (NodeTree f) → List Act
acts_in names f lists ns = flat_map (λ (n : DNode_data). n.pending) (map (node_of_tree names f lists) ns)

abbrev NodesFine : Names_data → (f : Format) → ListsTree f → List (NodeTree f) → Type 0
NodesFine names f lists ns = AllByRecursion (λ (n : NodeTree f). AreFine names (acts_of_pending f lists n.pending)) ns

all_peers : (names : Names_data) (f : Format) (lists : ListsTree f) (ns : List (NodeTree f)) → NodesFine names f lists ns → All (λ a. peer_of a < length names.roles) (acts_in names f lists ns)
all_peers names f lists [] h = nothing (λ a. peer_of a < length names.roles)
all_peers names f lists (n ∷ ns) h =
    let acts : List ActTree = acts_of_pending f lists n.pending in
    All-append (λ a. peer_of a < length names.roles) (map (act_of_tree names) acts) (acts_in names f lists ns) (peers_below names acts h.0.0) (all_peers names f lists ns h.1)

all_labels : (names : Names_data) (f : Format) (lists : ListsTree f) (ns : List (NodeTree f)) → NodesFine names f lists ns
    → All (λ a. label_number a < length names.labels) (acts_in names f lists ns)
all_labels names f lists [] h = nothing (λ a. label_number a < length names.labels)
all_labels names f lists (n ∷ ns) h =
    let acts : List ActTree = acts_of_pending f lists n.pending in
    All-append (λ a. label_number a < length names.labels) (map (act_of_tree names) acts) (acts_in names f lists ns) (labels_below names acts h.0.1) (all_labels names f lists ns h.1)

abbrev IsShort : DNode_data → Type 0
IsShort n = length n.pending ≤ MOST_BOUND

all_short : (names : Names_data) (f : Format) (lists : ListsTree f) (ns : List (NodeTree f)) → NodesFine names f lists ns → AllByRecursion IsShort (map (node_of_tree names f lists) ns)
all_short names f lists [] h = tt
all_short names f lists (n ∷ ns) h =
    let size = length-map (acts_of_pending f lists n.pending) (act_of_tree names) in
    let short = h.0.2 in
    (omega arith, all_short names f lists ns h.1)

-- ---- few labels

or_both : (a b : Bool) → (a || b) ≡ false → (a ≡ false) × (b ≡ false)
or_both true b h = absurd (cc h)
or_both false b h = (refl, h)

or_first : (a b : Bool) → (a || b) ≡ true → (a ≡ true) ⊎ (b ≡ true)
or_first true b h = inl refl
or_first false b h = inr h

same_by : (b c : Bool) (xs : List ℕ) (x q : ℕ) → list_any (eqb x) xs ≡ b → eqb q x ≡ c → list_any (eqb q) (unique_keys eqb xs) ≡ list_any (eqb q) xs
    → list_any (eqb q) (cond b (unique_keys eqb xs) (x ∷ unique_keys eqb xs)) ≡ (c || list_any (eqb q) xs)
same_by true true xs x q m t r = r ∙ ap (λ z. list_any (eqb z) xs) (eqb-true q x t) ∙ m
same_by true false xs x q m t r = r
same_by false c xs x q m t r = ap (λ z. z || list_any (eqb q) (unique_keys eqb xs)) t ∙ ap (λ z. c || z) r

absent_apart : (x : ℕ) (ys : List ℕ) → list_any (eqb x) ys ≡ false → AllByRecursion (λ y. eqb x y ≡ false) ys
absent_apart x [] h = tt
absent_apart x (y ∷ ys) h = let k = or_both (eqb x y) (list_any (eqb x) ys) h in (k.0, absent_apart x ys k.1)

unique_same : (xs : List ℕ) (q : ℕ) → list_any (eqb q) (unique_keys eqb xs) ≡ list_any (eqb q) xs
unique_same [] q = refl
unique_same (x ∷ xs) q = same_by (list_any (eqb x) xs) (eqb q x) xs x q refl refl (unique_same xs q)

distinct_none : IsDistinct eqb []
unfolding IsDistinct
distinct_none = tt

distinct_by : (b : Bool) (xs : List ℕ) (x : ℕ) → list_any (eqb x) xs ≡ b → IsDistinct eqb (unique_keys eqb xs) → IsDistinct eqb (cond b (unique_keys eqb xs) (x ∷ unique_keys eqb xs))
distinct_by true xs x m h = h
distinct_by false xs x m h = IsDistinct-cons eqb x (unique_keys eqb xs) (absent_apart x (unique_keys eqb xs) (unique_same xs x ∙ m)) h

unique_distinct : (xs : List ℕ) → IsDistinct eqb (unique_keys eqb xs)
unique_distinct [] = distinct_none
unique_distinct (x ∷ xs) = distinct_by (list_any (eqb x) xs) xs x refl (unique_distinct xs)

-- numbers below n, each counted once, are n at most
few_below : (xs : List ℕ) (n : ℕ) → ((q : ℕ) → list_any (eqb q) xs ≡ true → q < n) → distinct_count eqb xs ≤ n
few_below xs n h = length-le_from_distinct_below (unique_keys eqb xs) n (unique_distinct xs) (λ q e. h q (sym (unique_same xs q) ∙ e))

label_there : (acts : List Act) (n q : ℕ) → All (λ a. label_number a < n) acts → list_any (eqb q) (map label_number acts) ≡ true → q < n
label_there [] n q h e = absurd (cc e)
label_there (a ∷ acts) n q h e = elim (or_first (eqb q (label_number a)) (list_any (eqb q) (map label_number acts)) e) [
  | inl k ↦ subst (λ (z : ℕ). z < n) (sym (eqb-true q (label_number a) k)) (All-head (λ a. label_number a < n) a acts h)
  | inr k ↦ label_there acts n q (All-tail (λ a. label_number a < n) a acts h) k
]

-- ---- the whole

printable : (old : Names_data) (t : DerivationTree) → Fits old t → IsPrintable (names_of old t) (derivation_of (names_of old t) t)
printable old t f =
    let names : Names_data = names_of old t in
    let k = both (is_among t.role old.roles) (list_all (λ x. is_among x old.roles) (peers_of_acts (acts_of t))) f.roles in
    let fine : NodesFine names t.format t.lists t.nodes = each_node (AreFine names) t.format t.lists t.nodes (refl, refl, omega arith)
    (lists_fine names (written_lists t.format t.lists t.nodes) k.1 (grown_known (labels_of_acts (acts_of t)) old.labels) f.acts) in
    let acts : List Act = acts_in names t.format t.lists t.nodes in
    let labels = all_labels names t.format t.lists t.nodes fine in
    let few = few_below (map label_number acts) (length names.labels) (λ q e. label_there acts (length names.labels) q labels e) in
    let most = f.labels in
    let size = length-map t.nodes (node_of_tree names t.format t.lists) in
    let some = f.formed.some in
    let all = f.nodes in
    record {
      roles = record { role = below old.roles t.role k.0; peers = all_peers names t.format t.lists t.nodes fine };
      labels = labels;
      few_labels = omega arith;
      short_lists = All-from_recursion IsShort (map (node_of_tree names t.format t.lists) t.nodes) (all_short names t.format t.lists t.nodes fine);
      bound = f.formed.bound;
      some = omega arith;
      nodes = omega arith;
    }

pub spelt_printable : (old new : Names_data) (bytes : List ℕ) (at until : ℕ) (d : Derivation_data) → SpellsDerivation bytes at old new d until → IsPrintable new d
spelt_printable old new bytes at until d s =
    subst (λ (z : Derivation_data). IsPrintable new z) (sym s.derivation_is)
    (subst (λ (z : Names_data). IsPrintable z (derivation_of z s.tree)) (sym s.names_are) (printable old s.tree s.fits))
