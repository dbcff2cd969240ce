-- The lines of a derivation with other numbers for labels.
use Rattle.std.proofs.Common.{◌≡◌, ℕ, ◌<◌, List, [], ◌∷◌, length, map, Bool, true, false, ◌&&◌, ◌||◌, eqb, Some, refl, sym, ap, ◌∙◌, subst}
use Rattle.std.proofs.lemmas.Bool.{eqb-true, eq-eqb}
use Rattle.std.proofs.lemmas.List.{map-append}
use Rattle.std.proofs.lemmas.Option.{same_Some}
use Rattle.std.specs.List.{AllByRecursion, AllPairs, flat_map}
use Rattle.std.specs.Prelude.{◌≢◌}
use Rattle.rs_derivations.proofs.Again.{AreNamed, IsShown, listed, place_at, shown}
use Rattle.rs_derivations.proofs.Listed.{IsListed, TellsApart, all_changed, each_list, number_changed}
use Rattle.rs_derivations.proofs.Writable.{each_number}
use Rattle.rs_derivations.specs.Canonical.{canonical_text, tree_of, tree_of_act, tree_of_node}
use Rattle.rs_derivations.specs.Derivations.{act_of_tree, act_of_kind, acts_of, derivation_of, labels_of_acts, node_of_tree}
use Rattle.rs_text.specs.KnownNames.{role_named}
use Rattle.rs_derivations.specs.PendingLists.{is_one_of, lists_of, with_lists}
use Rattle.rs_derivations.specs.Printable.{IsPrintable, label_number}
use Rattle.rs_derivations.specs.Texts.{derivation_text}
use Rattle.rs_derivations.specs.Trees.{ActTree, NodeTree}
use Rattle.rs_derivations.specs.declared.formats.Format.TheVariants.{Two}
use Rattle.rs_derive.proofs.Acts.{acts_are, bools}
use Rattle.rs_derive.specs.Data.{DNode_data, Derivation_data}
use Rattle.rs_derive.specs.Targets.{same_act, same_acts}
use Rattle.rs_documents.proofs.MachinesAgain.{Renumbers}
use Rattle.rs_documents.proofs.MoreNames.{first_among, later_among, front_among, back_among}
use Rattle.rs_documents.specs.Again.{label_by, act_by, node_by, derivation_by}
use Rattle.rs_model.specs.Data.{Names_data}
use Rattle.rs_model.specs.Serving.{sort_number}
use Rattle.rs_model.specs.declared.graph.Label.{Label}
use Rattle.rs_model.specs.declared.graph.Role.{Role}
use Rattle.rs_model.specs.declared.machines.Act.{Act}
use Rattle.rs_model.specs.declared.machines.Act.TheVariants.{Puts, Takes}
use Rattle.rs_model.specs.declared.values.Sort.{Sort}
use Rattle.rs_prefix.specs.declared.earliest.ActKind.{ActKind}
use Rattle.rs_prefix.specs.declared.earliest.ActKind.TheVariants as act
use Rattle.rs_text.specs.Arms.{sort_or_unit}
use Rattle.rs_text.specs.Names.{is_among, number_or, place_of}
use Rattle.rs_text.specs.NamePlaces.{name_at}
use Rattle.rs_text.specs.Shown.{shown_sort}
use Rattle.rs_text.specs.Sound.{IsSound}

abbrev with_others : Names_data → List (List ℕ) → Names_data
with_others names others = record { roles = names.roles; labels = others }

-- ---- the derivation that is read

act_is : (number : ℕ → ℕ) (k : ActKind) (peer : Role) (label : Label) (s : Sort) → act_by number (act_of_kind k peer label s) ≡ act_of_kind k peer (label_by number label) s
act_is number act.Send peer label s = refl
act_is number act.Receive peer label s = refl

abbrev act_at : ActTree → Role → ℕ → Act
act_at a peer label = act_of_kind a.kind peer (record { 0 = label }) (sort_or_unit a.sort)

read_act : (number : ℕ → ℕ) (names : Names_data) (others : List (List ℕ)) (a : ActTree) → number (number_or (place_of a.label names.labels)) ≡ number_or (place_of a.label others)
    → act_by number (act_of_tree names a) ≡ act_of_tree (with_others names others) a
read_act number names others a h =
    let peer : Role = role_named names a.peer in
    act_is number a.kind peer (record { 0 = number_or (place_of a.label names.labels) }) (sort_or_unit a.sort) ∙ ap (λ (z : ℕ). act_at a peer z) h

read_acts : (number : ℕ → ℕ) (names : Names_data) (others : List (List ℕ)) (acts : List ActTree) → Renumbers number names.labels others (labels_of_acts acts)
    → map (act_by number) (map (act_of_tree names) acts) ≡ map (act_of_tree (with_others names others)) acts
read_acts number names others [] f = refl
read_acts number names others (a ∷ acts) f =
    ap (λ (z : Act). z ∷ map (act_by number) (map (act_of_tree names) acts)) (read_act number names others a (f a.label (first_among a.label (labels_of_acts acts))))
    ∙ ap (λ (z : List Act). act_of_tree (with_others names others) a ∷ z) (read_acts number names others acts (λ l h. f l (later_among l a.label (labels_of_acts acts) h)))

-- ---- the lists of a text

abbrev pub all_acts : List (List ActTree) → List ActTree
all_acts lists = flat_map (λ acts. acts) lists

abbrev pub trees_of : Names_data → List (List Act) → List (List ActTree)
trees_of names lists = map (λ acts. map (tree_of_act names) acts) lists

-- the labels of a list are among those of all
in_first : (l : List ℕ) (acts : List ActTree) (lists : List (List ActTree)) → is_among l (labels_of_acts acts) ≡ true → is_among l (labels_of_acts (all_acts (acts ∷ lists))) ≡ true
in_first l acts lists h =
    subst (λ (z : List (List ℕ)). is_among l z ≡ true) (sym (map-append (λ (t : ActTree). t.label) acts (all_acts lists))) (front_among l (labels_of_acts acts) (labels_of_acts (all_acts lists)) h)

in_later : (l : List ℕ) (acts : List ActTree) (lists : List (List ActTree)) → is_among l (labels_of_acts (all_acts lists)) ≡ true → is_among l (labels_of_acts (all_acts (acts ∷ lists))) ≡ true
in_later l acts lists h =
    subst (λ (z : List (List ℕ)). is_among l z ≡ true) (sym (map-append (λ (t : ActTree). t.label) acts (all_acts lists))) (back_among l (labels_of_acts acts) (labels_of_acts (all_acts lists)) h)

either_list : (b c : Bool) (P : Type 0) → (b || c) ≡ true → (b ≡ true → P) → (c ≡ true → P) → P
either_list true c P h f g = f refl
either_list false c P h f g = g h

in_lists : (names : Names_data) (lists : List (List Act)) (acts : List Act) (l : List ℕ) → is_one_of lists acts ≡ true → is_among l (labels_of_acts (map (tree_of_act names) acts)) ≡ true
    → is_among l (labels_of_acts (all_acts (trees_of names lists))) ≡ true
in_lists names [] acts l h k = absurd (cc h)
in_lists names (x ∷ lists) acts l h k =
    let mine : List ActTree = map (tree_of_act names) x in
    let more : List (List ActTree) = trees_of names lists in
    either_list (same_acts x acts) (is_one_of lists acts) (is_among l (labels_of_acts (all_acts (mine ∷ more))) ≡ true) h
    (λ e. in_first l mine more (subst (λ (z : List Act). is_among l (labels_of_acts (map (tree_of_act names) z)) ≡ true) (sym (acts_are x acts e)) k))
    (λ e. in_later l mine more (in_lists names lists acts l e k))

-- and so are those of the pending acts of a node
pub in_text : (names : Names_data) (lists : List (List Act)) (acts : List Act) (l : List ℕ) → IsListed lists acts → is_among l (labels_of_acts (map (tree_of_act names) acts)) ≡ true
    → is_among l (labels_of_acts (all_acts (trees_of names lists))) ≡ true
in_text names lists [] l h k = absurd (cc k)
in_text names lists (a ∷ acts) l h k = in_lists names lists (a ∷ acts) l h k

-- ---- the nodes that are read

abbrev IsRead : (ℕ → ℕ) → Names_data → List (List ℕ) → List ActTree → Type 0
IsRead number names others acts = map (act_by number) (map (act_of_tree names) acts) ≡ map (act_of_tree (with_others names others)) acts

read_lists : (number : ℕ → ℕ) (names : Names_data) (others : List (List ℕ)) (lists : List (List ActTree)) → Renumbers number names.labels others (labels_of_acts (all_acts lists))
    → AllByRecursion (IsRead number names others) lists
read_lists number names others [] f = tt
read_lists number names others (acts ∷ lists) f =
    (read_acts number names others acts (λ l h. f l (in_first l acts lists h)), read_lists number names others lists (λ l h. f l (in_later l acts lists h)))

abbrev node_at : NodeTree Two → List Act → DNode_data
node_at n acts = record { state = n.state; pending = acts; above = n.above; rank = n.rank; next = n.next }

read_nodes : (number : ℕ → ℕ) (names : Names_data) (others : List (List ℕ)) (lists : List (List ActTree)) (nodes : List (NodeTree Two)) → AllByRecursion (IsRead number names others) lists
    → map (node_by number) (map (node_of_tree names Two lists) nodes) ≡ map (node_of_tree (with_others names others) Two lists) nodes
read_nodes number names others lists [] h = refl
read_nodes number names others lists (n ∷ nodes) h =
    ap (λ (z : List Act). node_at n z ∷ map (node_by number) (map (node_of_tree names Two lists) nodes)) (each_number (IsRead number names others) lists n.pending refl h)
    ∙ ap (λ (z : List DNode_data). node_of_tree (with_others names others) Two lists n ∷ z) (read_nodes number names others lists nodes h)

abbrev derivation_with : Role → ℕ → List DNode_data → Derivation_data
derivation_with role bound nodes = record { role = role; bound = bound; nodes = nodes }

pub derivation_again : (names new : Names_data) (d : Derivation_data) (number : ℕ → ℕ) → derivation_of names (tree_of names d) ≡ d → new.roles ≡ names.roles
    → Renumbers number names.labels new.labels (labels_of_acts (acts_of (tree_of names d)))
    → derivation_by number d ≡ derivation_of new (tree_of names d)
derivation_again names new d number is roles f =
    let lists : List (List ActTree) = trees_of names (lists_of d) in
    let nodes : List (NodeTree Two) = map (tree_of_node (lists_of d)) d.nodes in
    ap (derivation_by number) (sym is)
    ∙ ap (λ (z : List DNode_data). derivation_with (role_named names (name_at names.roles d.role.0)) d.bound z) (read_nodes number names new.labels lists nodes (read_lists number names new.labels lists f))
    ∙ ap (λ (z : List (List ℕ)). derivation_of (record { roles = z; labels = new.labels }) (tree_of names d)) (sym roles)

-- ---- and it is written as it was

-- a label is written as before
abbrev pub IsNamedAlike : (ℕ → ℕ) → (these those labels : List (List ℕ)) → Type 0
IsNamedAlike number these those labels = (k : ℕ) → is_among (name_at these k) labels ≡ true → name_at those (number k) ≡ name_at these k

written_act : (number : ℕ → ℕ) (names : Names_data) (others : List (List ℕ)) (a : Act) (labels : List (List ℕ)) → IsNamedAlike number names.labels others ((tree_of_act names a).label ∷ labels)
    → tree_of_act (with_others names others) (act_by number a) ≡ tree_of_act names a
written_act number names others (Puts peer label sort) labels f =
    ap (λ (z : List ℕ). record { peer = name_at names.roles peer.0; kind = act.Send; label = z; sort = shown_sort sort }) (f label.0 (first_among (name_at names.labels label.0) labels))
written_act number names others (Takes peer label sort) labels f =
    ap (λ (z : List ℕ). record { peer = name_at names.roles peer.0; kind = act.Receive; label = z; sort = shown_sort sort }) (f label.0 (first_among (name_at names.labels label.0) labels))

written_acts : (number : ℕ → ℕ) (names : Names_data) (others : List (List ℕ)) (acts : List Act) → IsNamedAlike number names.labels others (labels_of_acts (map (tree_of_act names) acts))
    → map (tree_of_act (with_others names others)) (map (act_by number) acts) ≡ map (tree_of_act names) acts
written_acts number names others [] f = refl
written_acts number names others (a ∷ acts) f =
    let labels : List (List ℕ) = labels_of_acts (map (tree_of_act names) acts) in
    ap (λ (z : ActTree). z ∷ map (tree_of_act (with_others names others)) (map (act_by number) acts)) (written_act number names others a labels f)
    ∙ ap (λ (z : List ActTree). tree_of_act names a ∷ z) (written_acts number names others acts (λ k h. f k (later_among (name_at names.labels k) (tree_of_act names a).label labels h)))

written_lists : (number : ℕ → ℕ) (names : Names_data) (others : List (List ℕ)) (lists : List (List Act)) → IsNamedAlike number names.labels others (labels_of_acts (all_acts (trees_of names lists)))
    → trees_of (with_others names others) (map (λ acts. map (act_by number) acts) lists) ≡ trees_of names lists
written_lists number names others [] f = refl
written_lists number names others (acts ∷ lists) f =
    let mine : List ActTree = map (tree_of_act names) acts in
    let more : List (List ActTree) = trees_of names lists in
    ap (λ (z : List ActTree). z ∷ trees_of (with_others names others) (map (λ xs. map (act_by number) xs) lists))
    (written_acts number names others acts (λ k h. f k (in_first (name_at names.labels k) mine more h)))
    ∙ ap (λ (z : List (List ActTree)). mine ∷ z) (written_lists number names others lists (λ k h. f k (in_later (name_at names.labels k) mine more h)))

-- ---- lists that differ still do

-- the label is one of the text
abbrev IsUsed : (names labels : List (List ℕ)) → ℕ → Type 0
IsUsed names labels k = (k < length names) × (is_among (name_at names k) labels ≡ true)

abbrev AreUsed : (names labels : List (List ℕ)) → List Act → Type 0
AreUsed names labels acts = AllByRecursion (λ a. IsUsed names labels (label_number a)) acts

label_tells : (number : ℕ → ℕ) (these those labels : List (List ℕ)) (j k : ℕ) → AllPairs (λ x y. x ≢ y) these → IsNamedAlike number these those labels → IsUsed these labels j → IsUsed these labels k
    → eqb (number j) (number k) ≡ eqb j k
label_tells number these those labels j k differ f u v =
    bools (eqb (number j) (number k)) (eqb j k)
    (λ e.
    let name : name_at these j ≡ name_at these k = sym (f j u.1) ∙ ap (name_at those) (eqb-true (number j) (number k) e) ∙ f k v.1 in
    let place : Some j ≡ Some k = sym (place_at these j differ u.0) ∙ ap (λ (z : List ℕ). place_of z these) name ∙ place_at these k differ v.0 in
    eq-eqb j k (same_Some j k place))
    (λ e. eq-eqb (number j) (number k) (ap number (eqb-true j k e)))

act_tells : (number : ℕ → ℕ) (these those labels : List (List ℕ)) (a b : Act) → AllPairs (λ x y. x ≢ y) these → IsNamedAlike number these those labels → IsUsed these labels (label_number a)
    → IsUsed these labels (label_number b) → same_act (act_by number a) (act_by number b) ≡ same_act a b
act_tells number these those labels (Puts p l s) (Puts q k t) differ f u v =
    ap (λ z. eqb p.0 q.0 && (z && eqb (sort_number s) (sort_number t))) (label_tells number these those labels l.0 k.0 differ f u v)
act_tells number these those labels (Takes p l s) (Takes q k t) differ f u v =
    ap (λ z. eqb p.0 q.0 && (z && eqb (sort_number s) (sort_number t))) (label_tells number these those labels l.0 k.0 differ f u v)
act_tells number these those labels (Puts p l s) (Takes q k t) differ f u v = refl
act_tells number these those labels (Takes p l s) (Puts q k t) differ f u v = refl

acts_tell : (number : ℕ → ℕ) (these those labels : List (List ℕ)) (xs ys : List Act) → AllPairs (λ x y. x ≢ y) these → IsNamedAlike number these those labels → AreUsed these labels xs → AreUsed these labels ys
    → same_acts (map (act_by number) xs) (map (act_by number) ys) ≡ same_acts xs ys
acts_tell number these those labels [] [] differ f u v = refl
acts_tell number these those labels [] (y ∷ ys) differ f u v = refl
acts_tell number these those labels (x ∷ xs) [] differ f u v = refl
acts_tell number these those labels (x ∷ xs) (y ∷ ys) differ f u v =
    ap (λ z. z && same_acts (map (act_by number) xs) (map (act_by number) ys)) (act_tells number these those labels x y differ f u.0 v.0)
    ∙ ap (λ z. same_act x y && z) (acts_tell number these those labels xs ys differ f u.1 v.1)

label_first : (names : Names_data) (a : Act) (more : List (List ℕ)) → is_among (name_at names.labels (label_number a)) ((tree_of_act names a).label ∷ more) ≡ true
label_first names (Puts peer label sort) more = first_among (name_at names.labels label.0) more
label_first names (Takes peer label sort) more = first_among (name_at names.labels label.0) more

acts_used : (names : Names_data) (labels : List (List ℕ)) (acts : List Act) → AreNamed names acts
    → ((l : List ℕ) → is_among l (labels_of_acts (map (tree_of_act names) acts)) ≡ true → is_among l labels ≡ true) → AreUsed names.labels labels acts
acts_used names labels [] h f = tt
acts_used names labels (a ∷ acts) h f =
    let more : List (List ℕ) = labels_of_acts (map (tree_of_act names) acts) in (
      (h.0.1, f (name_at names.labels (label_number a)) (label_first names a more)),
      acts_used names labels acts h.1 (λ l k. f l (later_among l (tree_of_act names a).label more k)),
    )

-- the pending acts of all nodes
abbrev lists_in : List DNode_data → List (List Act)
lists_in nodes = map (λ (n : DNode_data). n.pending) nodes

nodes_used : (names : Names_data) (lists : List (List Act)) (nodes : List DNode_data) → AllByRecursion (λ (n : DNode_data). IsShown names n.pending) nodes → AllByRecursion (IsListed lists) (lists_in nodes)
    → AllByRecursion (AreUsed names.labels (labels_of_acts (all_acts (trees_of names lists)))) (lists_in nodes)
nodes_used names lists [] h k = tt
nodes_used names lists (n ∷ nodes) h k =
    (acts_used names (labels_of_acts (all_acts (trees_of names lists))) n.pending h.0.0 (λ l e. in_text names lists n.pending l k.0 e), nodes_used names lists nodes h.1 k.1)

pending_by : (number : ℕ → ℕ) (nodes : List DNode_data) → lists_in (map (node_by number) nodes) ≡ map (λ acts. map (act_by number) acts) (lists_in nodes)
pending_by number [] = refl
pending_by number (n ∷ nodes) = ap (λ (z : List (List Act)). map (act_by number) n.pending ∷ z) (pending_by number nodes)

written_nodes : (number : ℕ → ℕ) (Q : List Act → Type 0) (lists : List (List Act)) (nodes : List DNode_data) → TellsApart (act_by number) Q → AllByRecursion Q lists → AllByRecursion Q (lists_in nodes)
    → map (tree_of_node (map (λ acts. map (act_by number) acts) lists)) (map (node_by number) nodes) ≡ map (tree_of_node lists) nodes
written_nodes number Q lists [] t h k = refl
written_nodes number Q lists (n ∷ nodes) t h k =
    let others : List (List Act) = map (λ acts. map (act_by number) acts) lists in
    ap (λ (z : ℕ). node_of n z ∷ map (tree_of_node others) (map (node_by number) nodes)) (number_changed (act_by number) Q lists n.pending t h k.0)
    ∙ ap (λ (z : List (NodeTree Two)). tree_of_node lists n ∷ z) (written_nodes number Q lists nodes t h k.1)
  where
    node_of : DNode_data → ℕ → NodeTree Two
    node_of x p = record { state = x.state; pending = p; above = x.above; rank = x.rank; next = x.next }

each_list_of : (Q : List Act → Type 0) (xs : List (List Act)) → AllByRecursion Q xs → AllByRecursion Q (with_lists [] xs)
each_list_of Q xs h = each_list Q [] xs tt (any_length Q xs h)
  where
    any_length : (P : List Act → Type 0) (ys : List (List Act)) → AllByRecursion P ys → AllByRecursion (λ y. 0 < length y → P y) ys
    any_length P [] h = tt
    any_length P (y ∷ ys) h = (λ some. h.0, any_length P ys h.1)

pub derivation_printed_again : (names : Names_data) (others : List (List ℕ)) (d : Derivation_data) (number : ℕ → ℕ) → IsSound names → IsPrintable names d
    → IsNamedAlike number names.labels others (labels_of_acts (acts_of (tree_of names d)))
    → canonical_text (record { roles = names.roles; labels = others }) (derivation_by number d) ≡ canonical_text names d
derivation_printed_again names others d number sound printable f =
    let labels : List (List ℕ) = labels_of_acts (acts_of (tree_of names d)) in
    let lists : List (List Act) = lists_of d in
    let changed : List (List Act) = map (λ acts. map (act_by number) acts) lists in
    let Q : List Act → Type 0 = AreUsed names.labels labels in
    let tells : TellsApart (act_by number) Q = λ xs ys u v. acts_tell number names.labels others labels xs ys sound.labels_differ f u v in
    let used : AllByRecursion Q (lists_in d.nodes) = nodes_used names lists d.nodes (shown names d printable) (listed d) in
    let all : AllByRecursion Q lists = each_list_of Q (lists_in d.nodes) used in
    let same : lists_of (derivation_by number d) ≡ changed = ap (with_lists []) (pending_by number d.nodes) ∙ sym (all_changed (act_by number) Q [] (lists_in d.nodes) tells tt used) in
    let tree : List (List ActTree) → List (NodeTree Two) → List ℕ = λ z w. derivation_text (record { role = name_at names.roles d.role.0; format = Two; bound = d.bound; lists = z; nodes = w }) in
    ap (λ (z : List (List Act)). tree (trees_of (with_others names others) z) (map (tree_of_node z) (map (node_by number) d.nodes))) same
    ∙ ap (λ (z : List (List ActTree)). tree z (map (tree_of_node changed) (map (node_by number) d.nodes))) (written_lists number names others lists f)
    ∙ ap (λ (z : List (NodeTree Two)). tree (trees_of names lists) z) (written_nodes number Q lists d.nodes tells all used)
