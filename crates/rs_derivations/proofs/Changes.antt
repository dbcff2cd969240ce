-- What a token adds to the names, the acts and the nodes before a place, and the rule that it may break there.
use Rattle.std.proofs.Common.{◌≡◌, ◌⊎◌, inl, inr, ℕ, zero, suc, ◌+◌, List, [], ◌∷◌, ◌++◌, codes, length, map, Bool, true, false, ◌&&◌, ◌==◌, nat_le, if◌then◌else◌, Option, Some, None, IfSome, refl, sym, ap}
use Rattle.std.proofs.Common.{◌∙◌, append_assoc, append-nil, length-append, arith}
use Rattle.std.proofs.lemmas.Grind.{flat_map-append}
use Rattle.std.proofs.lemmas.List.{map-append}
use Rattle.std.specs.List.{flat_map}
use Rattle.std.specs.Option.{option_map}
use Rattle.rs_model.specs.Data.{Names_data}
use Rattle.rs_model.specs.declared.limits.TheConstants.{MOST_CANDIDATES}
use Rattle.rs_model.specs.declared.values.Sort.{Sort}
use Rattle.rs_prefix.specs.declared.earliest.ActKind.{ActKind}
use Rattle.rs_text.specs.declared.faults.TextKind.TheVariants as kind
use Rattle.rs_text.specs.Names.{names_with}
use Rattle.rs_text.specs.Seen.{plain_text, word_text, sort_named}
use Rattle.rs_text.specs.Signs.{Sign}
use Rattle.rs_derivations.specs.declared.formats.Format.{Format}
use Rattle.rs_derivations.specs.declared.formats.Format.TheVariants.{One, Two}
use Rattle.rs_derivations.specs.Cuts.{ActCut, behind_peer, behind_mark, behind_label, behind_paren, behind_sort, ActsCut, at_act, in_act, behind_act, NodeCut, at_number, at_colon, at_state, at_pending, at_above}
use Rattle.rs_derivations.specs.Cuts.{at_rank_word, at_rank, at_next_word, at_nexts, at_next, behind_next, Head, ActsHome, of_node, of_list, Cut, at_begin, at_role, behind_role, at_format_number, behind_format, at_bound}
use Rattle.rs_derivations.specs.Cuts.{at_brace, at_lists, at_list_number, at_list_colon, in_acts, in_node, at_pending_number, at_above_word, at_end}
use Rattle.rs_derivations.specs.Derivations.{acts_of, written_lists, labels_of_acts, peers_of_acts}
use Rattle.rs_derivations.specs.Faults.{fault_of_node, fault_of_peer, acts_before, fault_of}
use Rattle.rs_text.specs.TokenTests.{number_value}
use Rattle.rs_text.specs.NameFaults.{fault_of_role, fault_of_label}
use Rattle.rs_derivations.specs.Feeding.{mark_kind, is_none_of, is_some_of, is_bound}
use Rattle.rs_text.specs.TokenTests.{is_colon, is_comma, is_open_brace, is_close_brace, is_open_bracket, is_close_bracket, is_keyword}
use Rattle.rs_derivations.specs.Trees.{ActTree, PendingTree, NodeTree}
use Rattle.rs_derivations.proofs.Grows.{is_open_paren, is_close_paren, act_tree, node_tree, derivation_tree, first_head, listed, acted, mark_step, label_step, sorted_step, sort_step, act_grows, first_step}
use Rattle.rs_derivations.proofs.Grows.{begin_step, list_step, act_step, acts_end, acts_grow, number_step, state_step, pending_step, with_step, above_step, rank_step, ended, next_step, node_grows}
use Rattle.rs_derivations.proofs.Grows.{role_step, format_step, bound_step, opened, grows}

-- ---- names, acts and nodes before a place

abbrev pub all_acts : List (List ActTree) → List ActTree
all_acts lists = flat_map (λ acts. acts) lists

-- the numbers from 1 to n
abbrev pub up_to : ℕ → List ℕ
up_to zero = []
up_to (suc n) = up_to n ++ suc n ∷ []

-- for each act of a list its place there, from 1 on
abbrev pub ordinals_of : List (List ActTree) → List ℕ
ordinals_of lists = flat_map (λ acts. up_to (length acts)) lists

abbrev pub lists_before : ActsHome → List (List ActTree)
lists_before (of_node h ns s) = written_lists One h.lists ns
lists_before (of_list h) = written_lists Two h.lists []

-- the acts that a node writes out
abbrev pub pending_acts : (f : Format) → PendingTree f → List ActTree
pending_acts One acts = acts
pending_acts Two n = []

abbrev pub node_acts : (f : Format) → NodeCut f → List ActTree
node_acts f at_number = []
node_acts f at_colon = []
node_acts f at_state = []
node_acts f (at_pending s) = []
node_acts f (at_above s p) = pending_acts f p
node_acts f (at_rank_word s p a) = pending_acts f p
node_acts f (at_rank s p a) = pending_acts f p
node_acts f (at_next_word s p a r) = pending_acts f p
node_acts f (at_nexts s p a r) = pending_acts f p
node_acts f (at_next s p a r next) = pending_acts f p
node_acts f (behind_next s p a r x xs) = pending_acts f p

abbrev pub labels_before : List ActTree → ActCut → List (List ℕ)
labels_before acts (behind_peer p) = labels_of_acts acts
labels_before acts (behind_mark p k) = labels_of_acts acts
labels_before acts (behind_label p k l) = labels_of_acts acts ++ l ∷ []
labels_before acts (behind_paren p k l) = labels_of_acts acts ++ l ∷ []
labels_before acts (behind_sort p k l q) = labels_of_acts acts ++ l ∷ []

abbrev pub labels_at : ActsCut → List (List ℕ)
labels_at (at_act acts) = labels_of_acts acts
labels_at (in_act acts a) = labels_before acts a
labels_at (behind_act x xs) = labels_of_acts (x ∷ xs)

abbrev pub labels_so : (f : Format) → Head f → List (NodeTree f) → List ActTree → List (List ℕ)
labels_so f h ns acts = labels_of_acts (all_acts (written_lists f h.lists ns)) ++ labels_of_acts acts

abbrev pub labels_in : Cut → List (List ℕ)
labels_in (at_list_number h) = labels_so Two h [] []
labels_in (at_list_colon h) = labels_so Two h [] []
labels_in (in_acts home c) = labels_of_acts (acts_before home) ++ labels_at c
labels_in (in_node f h ns p) = labels_so f h ns (node_acts f p)
labels_in (at_pending_number h ns s) = labels_so Two h ns []
labels_in (at_above_word h ns s n) = labels_so Two h ns []
labels_in (at_end t) = labels_of_acts (acts_of t)
labels_in _ = []

abbrev pub peer_of : ActCut → List ℕ
peer_of (behind_peer p) = p
peer_of (behind_mark p k) = p
peer_of (behind_label p k l) = p
peer_of (behind_paren p k l) = p
peer_of (behind_sort p k l q) = p

abbrev pub peers_at : ActsCut → List (List ℕ)
peers_at (at_act acts) = peers_of_acts acts
peers_at (in_act acts a) = peers_of_acts acts ++ peer_of a ∷ []
peers_at (behind_act x xs) = peers_of_acts (x ∷ xs)

abbrev pub roles_so : (f : Format) → Head f → List (NodeTree f) → List ActTree → List (List ℕ)
roles_so f h ns acts = h.role ∷ (peers_of_acts (all_acts (written_lists f h.lists ns)) ++ peers_of_acts acts)

abbrev pub home_role : ActsHome → List ℕ
home_role (of_node h ns s) = h.role
home_role (of_list h) = h.role

abbrev pub roles_in : Cut → List (List ℕ)
roles_in at_begin = []
roles_in at_role = []
roles_in (behind_role x) = x ∷ []
roles_in (at_format_number x) = x ∷ []
roles_in (behind_format x) = x ∷ []
roles_in (at_bound f x) = x ∷ []
roles_in (at_brace f x b) = x ∷ []
roles_in (at_lists x b) = x ∷ []
roles_in (at_list_number h) = roles_so Two h [] []
roles_in (at_list_colon h) = roles_so Two h [] []
roles_in (in_acts home c) = home_role home ∷ (peers_of_acts (acts_before home) ++ peers_at c)
roles_in (in_node f h ns p) = roles_so f h ns (node_acts f p)
roles_in (at_pending_number h ns s) = roles_so Two h ns []
roles_in (at_above_word h ns s n) = roles_so Two h ns []
roles_in (at_end t) = t.role ∷ peers_of_acts (acts_of t)

-- acts whose peer was read
abbrev pub begun_at : ActsCut → ℕ
begun_at (at_act acts) = length acts
begun_at (in_act acts a) = suc (length acts)
begun_at (behind_act x xs) = length (x ∷ xs)

abbrev pub ordinals_so : (f : Format) → Head f → List (NodeTree f) → List ActTree → List ℕ
ordinals_so f h ns acts = ordinals_of (written_lists f h.lists ns) ++ up_to (length acts)

abbrev pub ordinals_in : Cut → List ℕ
ordinals_in (at_list_number h) = ordinals_so Two h [] []
ordinals_in (at_list_colon h) = ordinals_so Two h [] []
ordinals_in (in_acts home c) = ordinals_of (lists_before home) ++ up_to (begun_at c)
ordinals_in (in_node f h ns p) = ordinals_so f h ns (node_acts f p)
ordinals_in (at_pending_number h ns s) = ordinals_so Two h ns []
ordinals_in (at_above_word h ns s n) = ordinals_so Two h ns []
ordinals_in (at_end t) = ordinals_of (written_lists t.format t.lists t.nodes)
ordinals_in _ = []

-- nodes whose number was read
abbrev pub count_at : {f : Format} → ℕ → NodeCut f → ℕ
count_at n at_number = n
count_at n _ = suc n

abbrev pub nodes_of_home : ActsHome → ℕ
nodes_of_home (of_node h ns s) = suc (length ns)
nodes_of_home (of_list h) = 0

abbrev pub count_in : Cut → ℕ
count_in (in_acts home c) = nodes_of_home home
count_in (in_node f h ns p) = count_at (length ns) p
count_in (at_pending_number h ns s) = suc (length ns)
count_in (at_above_word h ns s n) = suc (length ns)
count_in (at_end t) = length t.nodes
count_in _ = 0

-- ---- what a token adds

pub record Adds (c d : Cut) (roles labels : List (List ℕ)) (ordinals : List ℕ) (nodes : ℕ) : Type 0 where
  pub roles_are : roles_in d ≡ roles_in c ++ roles
  pub labels_are : labels_in d ≡ labels_in c ++ labels
  pub ordinals_are : ordinals_in d ≡ ordinals_in c ++ ordinals
  pub count_is : count_in d ≡ count_in c + nodes

pub record AddsNothing (old : Names_data) (c : Cut) (t : Sign) (d : Cut) : Type 0 where
  pub clear : fault_of old c t ≡ None
  pub adds : Adds c d [] [] [] 0

pub record AddsRole (old : Names_data) (c : Cut) (t : Sign) (d : Cut) : Type 0 where
  pub name : List ℕ
  pub fault : fault_of old c t ≡ fault_of_role old (Some name)
  pub adds : Adds c d (name ∷ []) [] [] 0

pub record AddsPeer (old : Names_data) (c : Cut) (t : Sign) (d : Cut) : Type 0 where
  pub name : List ℕ
  pub count : ℕ
  pub fault : fault_of old c t ≡ fault_of_peer old count (Some name)
  pub adds : Adds c d (name ∷ []) [] (suc count ∷ []) 0

pub record AddsLabel (old : Names_data) (c : Cut) (t : Sign) (d : Cut) : Type 0 where
  pub name : List ℕ
  pub fault : fault_of old c t ≡ fault_of_label (names_with old.labels (labels_in c)) (Some name)
  pub adds : Adds c d [] (name ∷ []) [] 0

pub record AddsNode (old : Names_data) (c : Cut) (t : Sign) (d : Cut) : Type 0 where
  pub fault : fault_of old c t ≡ (if nat_le MOST_CANDIDATES (count_in c) then Some kind.TooManyNodes else None)
  pub adds : Adds c d [] [] [] 1

abbrev pub Change : Names_data → Cut → Sign → Cut → Type 0
Change old c t d = AddsNothing old c t d ⊎ (AddsRole old c t d ⊎ (AddsPeer old c t d ⊎ (AddsLabel old c t d ⊎ AddsNode old c t d)))

-- what stands before d is what stands before c
record Same (c d : Cut) : Type 0 where
  roles : roles_in d ≡ roles_in c
  labels : labels_in d ≡ labels_in c
  ordinals : ordinals_in d ≡ ordinals_in c

adds_none : (c d : Cut) (n : ℕ) → Same c d → count_in d ≡ count_in c + n → Adds c d [] [] [] n
adds_none c d n e k = record {
  roles_are = e.roles ∙ sym (append-nil (roles_in c));
  labels_are = e.labels ∙ sym (append-nil (labels_in c));
  ordinals_are = e.ordinals ∙ sym (append-nil (ordinals_in c));
  count_is = k;
}

same : (old : Names_data) (c : Cut) (t : Sign) (d : Cut) → fault_of old c t ≡ None → Same c d → count_in d ≡ count_in c → Change old c t d
same old c t d f e k = inl (record { clear = f; adds = adds_none c d 0 e (omega arith) })

-- ---- lists

abbrev acts_label : ActTree → List ℕ
acts_label a = a.label

abbrev acts_peer : ActTree → List ℕ
acts_peer a = a.peer

pub acts_more : (lists : List (List ActTree)) (acts : List ActTree) → all_acts (lists ++ acts ∷ []) ≡ all_acts lists ++ acts
acts_more lists acts = flat_map-append (λ (x : List ActTree). x) lists (acts ∷ []) ∙ ap (λ z. all_acts lists ++ z) (append-nil acts)

pub labels_more : (lists : List (List ActTree)) (acts : List ActTree) → labels_of_acts (all_acts (lists ++ acts ∷ [])) ≡ labels_of_acts (all_acts lists) ++ labels_of_acts acts
labels_more lists acts = ap labels_of_acts (acts_more lists acts) ∙ map-append acts_label (all_acts lists) acts

peers_more : (lists : List (List ActTree)) (acts : List ActTree) → peers_of_acts (all_acts (lists ++ acts ∷ [])) ≡ peers_of_acts (all_acts lists) ++ peers_of_acts acts
peers_more lists acts = ap peers_of_acts (acts_more lists acts) ∙ map-append acts_peer (all_acts lists) acts

ordinals_more : (lists : List (List ActTree)) (acts : List ActTree) → ordinals_of (lists ++ acts ∷ []) ≡ ordinals_of lists ++ up_to (length acts)
ordinals_more lists acts =
    flat_map-append (λ (x : List ActTree). up_to (length x)) lists (acts ∷ []) ∙ ap (λ z. ordinals_of lists ++ z) (append-nil (up_to (length acts)))

abbrev node_pending : NodeTree One → List ActTree
node_pending n = n.pending

pub written_more : (ns : List (NodeTree One)) (n : NodeTree One) → map node_pending (ns ++ n ∷ []) ≡ map node_pending ns ++ n.pending ∷ []
written_more ns n = map-append node_pending ns (n ∷ [])

-- a node with its acts, and with it whole
pub labels_whole : (f : Format) (h : Head f) (ns : List (NodeTree f)) (n : NodeTree f) → labels_so f h (ns ++ n ∷ []) [] ≡ labels_so f h ns (pending_acts f n.pending)
labels_whole One h ns n =
    append-nil (labels_of_acts (all_acts (map node_pending (ns ++ n ∷ [])))) ∙ ap (λ z. labels_of_acts (all_acts z)) (written_more ns n) ∙ labels_more (map node_pending ns) n.pending
labels_whole Two h ns n = refl

roles_whole : (f : Format) (h : Head f) (ns : List (NodeTree f)) (n : NodeTree f) → roles_so f h (ns ++ n ∷ []) [] ≡ roles_so f h ns (pending_acts f n.pending)
roles_whole One h ns n = ap (λ z. h.role ∷ z)
    (append-nil (peers_of_acts (all_acts (map node_pending (ns ++ n ∷ [])))) ∙ ap (λ z. peers_of_acts (all_acts z)) (written_more ns n) ∙ peers_more (map node_pending ns) n.pending)
roles_whole Two h ns n = refl

ordinals_whole : (f : Format) (h : Head f) (ns : List (NodeTree f)) (n : NodeTree f) → ordinals_so f h (ns ++ n ∷ []) [] ≡ ordinals_so f h ns (pending_acts f n.pending)
ordinals_whole One h ns n =
    append-nil (ordinals_of (map node_pending (ns ++ n ∷ []))) ∙ ap ordinals_of (written_more ns n) ∙ ordinals_more (map node_pending ns) n.pending
ordinals_whole Two h ns n = refl

-- ---- by places

if_change : {A : Type 0} (b : Bool) (g : A) (P : A → Type 0) → (b ≡ true → P g) → IfSome (if b then Some g else None) P
if_change true g P h = h refl
if_change false g P h = tt

either_change : (b c : Bool) (g h : Cut) (P : Cut → Type 0) → P g → P h → IfSome (if b then Some g else if c then Some h else None) P
either_change true c g h P f k = f
either_change false true g h P f k = k
either_change false false g h P f k = tt

else_change : (b : Bool) (g : Cut) (o : Option Cut) (P : Cut → Type 0) → P g → IfSome o P → IfSome (if b then Some g else o) P
else_change true g o P f k = f
else_change false g o P f k = k

mapped : {A B : Type 0} (f : A → B) (P : B → Type 0) (o : Option A) → IfSome o (λ g. P (f g)) → IfSome (option_map f o) P
mapped f P None h = tt
mapped f P (Some g) h = h

-- ---- within acts

acted_peers : (acts : List ActTree) (a : ActTree) → peers_at (acted acts a) ≡ peers_of_acts acts ++ a.peer ∷ []
acted_peers [] a = refl
acted_peers (y ∷ ys) a = ap (λ z. y.peer ∷ z) (map-append acts_peer ys (a ∷ []))

acted_labels : (acts : List ActTree) (a : ActTree) → labels_at (acted acts a) ≡ labels_of_acts acts ++ a.label ∷ []
acted_labels [] a = refl
acted_labels (y ∷ ys) a = ap (λ z. y.label ∷ z) (map-append acts_label ys (a ∷ []))

acted_begun : (acts : List ActTree) (a : ActTree) → begun_at (acted acts a) ≡ suc (length acts)
acted_begun [] a = refl
acted_begun (y ∷ ys) a = let e = length-append ys (a ∷ []) in omega arith

-- the change to acts that are grown to
abbrev ToActs : Names_data → ActsHome → ActsCut → Sign → ActsCut → Type 0
ToActs old home c t d = Change old (in_acts home c) t (in_acts home d)

acts_kept : (old : Names_data) (home : ActsHome) (c d : ActsCut) (t : Sign) → fault_of old (in_acts home c) t ≡ None → peers_at d ≡ peers_at c → labels_at d ≡ labels_at c → begun_at d ≡ begun_at c
    → ToActs old home c t d
acts_kept old home c d t f p l b = same old (in_acts home c) t (in_acts home d) f (record {
  roles = ap (λ z. home_role home ∷ (peers_of_acts (acts_before home) ++ z)) p;
  labels = ap (λ z. labels_of_acts (acts_before home) ++ z) l;
  ordinals = ap (λ z. ordinals_of (lists_before home) ++ up_to z) b;
}) refl

act_ends : (old : Names_data) (home : ActsHome) (acts : List ActTree) (cut : ActCut) (a : ActTree) (t : Sign) → fault_of old (in_acts home (in_act acts cut)) t ≡ None → peer_of cut ≡ a.peer
    → labels_before acts cut ≡ labels_of_acts acts ++ a.label ∷ [] → ToActs old home (in_act acts cut) t (acted acts a)
act_ends old home acts cut a t f e l =
    acts_kept old home (in_act acts cut) (acted acts a) t f (acted_peers acts a ∙ ap (λ z. peers_of_acts acts ++ z ∷ []) (sym e)) (acted_labels acts a ∙ sym l) (acted_begun acts a)

marks_change : (old : Names_data) (home : ActsHome) (acts : List ActTree) (p : List ℕ) (t : Sign) (o : Option ActKind) → IfSome (mark_step acts p o) (ToActs old home (in_act acts (behind_peer p)) t)
marks_change old home acts p t None = tt
marks_change old home acts p t (Some k) = acts_kept old home (in_act acts (behind_peer p)) (in_act acts (behind_mark p k)) t refl refl refl refl

labels_change : (old : Names_data) (home : ActsHome) (acts : List ActTree) (p : List ℕ) (k : ActKind) (t : Sign) (o : Option (List ℕ)) → word_text t ≡ o
    → IfSome (label_step acts p k o) (ToActs old home (in_act acts (behind_mark p k)) t)
labels_change old home acts p k t None e = tt
labels_change old home acts p k t (Some l) e = inr (inr (inr (inl (record {
  name = l;
  fault = ap (λ z. fault_of_label (names_with old.labels (labels_of_acts (acts_before home) ++ labels_of_acts acts)) z) e;
  adds = record {
    roles_are = sym (append-nil (roles_in (in_acts home (in_act acts (behind_mark p k)))));
    labels_are = sym (append_assoc (labels_of_acts (acts_before home)) (labels_of_acts acts) (l ∷ []));
    ordinals_are = sym (append-nil (ordinals_in (in_acts home (in_act acts (behind_mark p k)))));
    count_is = omega arith;
  };
}))))

sorted_change : (old : Names_data) (home : ActsHome) (acts : List ActTree) (p : List ℕ) (k : ActKind) (l : List ℕ) (t : Sign) (o : Option Sort)
    → IfSome (sorted_step acts p k l o) (ToActs old home (in_act acts (behind_paren p k l)) t)
sorted_change old home acts p k l t None = tt
sorted_change old home acts p k l t (Some q) = acts_kept old home (in_act acts (behind_paren p k l)) (in_act acts (behind_sort p k l q)) t refl refl refl refl

sorts_change : (old : Names_data) (home : ActsHome) (acts : List ActTree) (p : List ℕ) (k : ActKind) (l : List ℕ) (t : Sign) (o : Option (List ℕ)) (c : Bool)
    → IfSome (sort_step acts p k l o c) (ToActs old home (in_act acts (behind_paren p k l)) t)
sorts_change old home acts p k l t (Some w) c = sorted_change old home acts p k l t (sort_named w)
sorts_change old home acts p k l t None c = if_change c (acted acts (act_tree p k l None)) _ (λ h. act_ends old home acts (behind_paren p k l) (act_tree p k l None) t refl refl refl)

act_change : (old : Names_data) (home : ActsHome) (acts : List ActTree) (a : ActCut) (t : Sign) → IfSome (act_grows acts a t) (ToActs old home (in_act acts a) t)
act_change old home acts (behind_peer p) t = marks_change old home acts p t (mark_kind t)
act_change old home acts (behind_mark p k) t = labels_change old home acts p k t (word_text t) refl
act_change old home acts (behind_label p k l) t =
    if_change (is_open_paren t) (in_act acts (behind_paren p k l)) _ (λ h. acts_kept old home (in_act acts (behind_label p k l)) (in_act acts (behind_paren p k l)) t refl refl refl refl)
act_change old home acts (behind_paren p k l) t = sorts_change old home acts p k l t (plain_text t) (is_close_paren t)
act_change old home acts (behind_sort p k l q) t =
    if_change (is_close_paren t) (acted acts (act_tree p k l (Some q))) _ (λ h. act_ends old home acts (behind_sort p k l q) (act_tree p k l (Some q)) t refl refl refl)

-- what stands before the nodes is what stands before the place
record Lists (c : Cut) (h : Head Two) : Type 0 where
  roles : roles_in c ≡ roles_so Two h [] []
  labels : labels_in c ≡ labels_so Two h [] []
  ordinals : ordinals_in c ≡ ordinals_so Two h [] []
  count : count_in c ≡ 0

same_lists : (c : Cut) (h : Head Two) → Lists c h → Same c (at_list_number h)
same_lists c h e = record { roles = sym e.roles; labels = sym e.labels; ordinals = sym e.ordinals }

first_change : (old : Names_data) (c : Cut) (h : Head Two) (t : Sign) (o : Option ℕ) → fault_of old c t ≡ None → Lists c h → IfSome (first_step h o) (Change old c t)
first_change old c h t None f e = tt
first_change old c h t (Some n) f e = if_change (n == 0) (in_node Two h [] at_colon) _ (λ k. inr (inr (inr (inr (record {
  fault = f ∙ ap (λ z. if nat_le MOST_CANDIDATES z then Some kind.TooManyNodes else None) (sym e.count);
  adds = adds_none c (in_node Two h [] at_colon) 1 (record { roles = sym e.roles; labels = sym e.labels; ordinals = sym e.ordinals }) (let z = e.count in omega arith);
})))))

begin_change : (old : Names_data) (c : Cut) (h : Head Two) (t : Sign) → fault_of old c t ≡ None → Lists c h → IfSome (begin_step h t) (Change old c t)
begin_change old c h t f e =
    else_change (is_keyword (codes "pending") t) (at_list_number h) (first_step h (number_value t)) _ (same old c t (at_list_number h) f (same_lists c h e) (sym e.count))
    (first_change old c h t (number_value t) f e)

listed_there : (h : Head Two) (x : ActTree) (xs : List ActTree) → Lists (in_acts (of_list h) (behind_act x xs)) (listed h (x ∷ xs))
listed_there h x xs = record {
  roles = ap (λ z. h.role ∷ z) (sym (append-nil (peers_of_acts (all_acts (h.lists ++ (x ∷ xs) ∷ []))) ∙ peers_more h.lists (x ∷ xs)));
  labels = sym (append-nil (labels_of_acts (all_acts (h.lists ++ (x ∷ xs) ∷ []))) ∙ labels_more h.lists (x ∷ xs));
  ordinals = sym (append-nil (ordinals_of (h.lists ++ (x ∷ xs) ∷ [])) ∙ ordinals_more h.lists (x ∷ xs));
  count = refl;
}

acts_end_change : (old : Names_data) (home : ActsHome) (x : ActTree) (xs : List ActTree) (t : Sign) → IfSome (acts_end home (x ∷ xs) t) (Change old (in_acts home (behind_act x xs)) t)
acts_end_change old (of_node h ns s) x xs t = if_change (is_close_bracket t) (in_node One h ns (at_above s (x ∷ xs))) _
    (λ k. same old (in_acts (of_node h ns s) (behind_act x xs)) t (in_node One h ns (at_above s (x ∷ xs))) refl (record { roles = refl; labels = refl; ordinals = refl }) refl)
acts_end_change old (of_list h) x xs t = begin_change old (in_acts (of_list h) (behind_act x xs)) (listed h (x ∷ xs)) t refl (listed_there h x xs)

peers_change : (old : Names_data) (home : ActsHome) (acts : List ActTree) (t : Sign) (o : Option (List ℕ)) → plain_text t ≡ o
    → IfSome (act_step home acts o (is_close_bracket t)) (Change old (in_acts home (at_act acts)) t)
peers_change old home acts t (Some w) e = inr (inr (inl (record {
  name = w;
  count = length acts;
  fault = ap (fault_of_peer old (length acts)) e;
  adds = record {
    roles_are = ap (λ z. home_role home ∷ z) (sym (append_assoc (peers_of_acts (acts_before home)) (peers_of_acts acts) (w ∷ [])));
    labels_are = sym (append-nil (labels_in (in_acts home (at_act acts))));
    ordinals_are = sym (append_assoc (ordinals_of (lists_before home)) (up_to (length acts)) (suc (length acts) ∷ []));
    count_is = omega arith;
  };
})))
peers_change old (of_node h ns s) acts t None e = if_change (is_close_bracket t && is_none_of acts) (in_node One h ns (at_above s acts)) _
    (λ k. same old (in_acts (of_node h ns s) (at_act acts)) t (in_node One h ns (at_above s acts)) (ap (fault_of_peer old (length acts)) e) (record { roles = refl; labels = refl; ordinals = refl }) refl)
peers_change old (of_list h) acts t None e = tt

acts_change : (old : Names_data) (home : ActsHome) (c : ActsCut) (t : Sign) → IfSome (acts_grow home c t) (Change old (in_acts home c) t)
acts_change old home (at_act acts) t = peers_change old home acts t (plain_text t) refl
acts_change old home (in_act acts a) t = mapped (in_acts home) (Change old (in_acts home (in_act acts a)) t) (act_grows acts a t) (act_change old home acts a t)
acts_change old home (behind_act x xs) t =
    else_change (is_comma t) (in_acts home (at_act (x ∷ xs))) (acts_end home (x ∷ xs) t) _ (acts_kept old home (behind_act x xs) (at_act (x ∷ xs)) t refl refl refl refl)
    (acts_end_change old home x xs t)

-- ---- within a node

node_kept : (old : Names_data) (f : Format) (h : Head f) (ns : List (NodeTree f)) (p q : NodeCut f) (t : Sign) → fault_of old (in_node f h ns p) t ≡ None → node_acts f q ≡ node_acts f p
    → count_at (length ns) q ≡ count_at (length ns) p → Change old (in_node f h ns p) t (in_node f h ns q)
node_kept old f h ns p q t c e k = same old (in_node f h ns p) t (in_node f h ns q) c (record {
  roles = ap (λ z. roles_so f h ns z) e;
  labels = ap (λ z. labels_so f h ns z) e;
  ordinals = ap (λ z. ordinals_so f h ns z) e;
}) k

node_ends : (old : Names_data) (f : Format) (h : Head f) (ns : List (NodeTree f)) (p : NodeCut f) (n : NodeTree f) (t : Sign) → fault_of old (in_node f h ns p) t ≡ None
    → node_acts f p ≡ pending_acts f n.pending → count_at (length ns) p ≡ suc (length ns) → Change old (in_node f h ns p) t (ended f h ns n)
node_ends old f h ns p n t c e k = same old (in_node f h ns p) t (ended f h ns n) c (record {
  roles = roles_whole f h ns n ∙ ap (λ z. roles_so f h ns z) (sym e);
  labels = labels_whole f h ns n ∙ ap (λ z. labels_so f h ns z) (sym e);
  ordinals = ordinals_whole f h ns n ∙ ap (λ z. ordinals_so f h ns z) (sym e);
}) (length-append ns (n ∷ []) ∙ omega arith ∙ sym k)

count_fault : (count n : ℕ) → (n == count) ≡ true → fault_of_node count (Some n) ≡ (if nat_le MOST_CANDIDATES count then Some kind.TooManyNodes else None)
count_fault count n h = ap (λ z. if z then (if nat_le MOST_CANDIDATES count then Some kind.TooManyNodes else None) else None) h

numbers_change : (old : Names_data) (f : Format) (h : Head f) (ns : List (NodeTree f)) (t : Sign) (o : Option ℕ) → number_value t ≡ o
    → IfSome (number_step f h ns o (is_close_brace t)) (Change old (in_node f h ns at_number) t)
numbers_change old f h ns t (Some n) e = if_change (n == length ns) (in_node f h ns at_colon) _ (λ k. inr (inr (inr (inr (record {
  fault = ap (λ z. fault_of_node (length ns) z) e ∙ count_fault (length ns) n k;
  adds = adds_none (in_node f h ns at_number) (in_node f h ns at_colon) 1 (record { roles = refl; labels = refl; ordinals = refl }) (omega arith);
})))))
numbers_change old f h ns t None e = if_change (is_close_brace t && is_some_of ns) (at_end (derivation_tree f h ns)) _
    (λ k. same old (in_node f h ns at_number) t (at_end (derivation_tree f h ns)) (ap (λ z. fault_of_node (length ns) z) e)
    (record {
      roles = ap (λ z. h.role ∷ z) (sym (append-nil (peers_of_acts (all_acts (written_lists f h.lists ns)))));
      labels = sym (append-nil (labels_of_acts (all_acts (written_lists f h.lists ns))));
      ordinals = sym (append-nil (ordinals_of (written_lists f h.lists ns)));
    }) refl)

states_change : (old : Names_data) (f : Format) (h : Head f) (ns : List (NodeTree f)) (t : Sign) (o : Option ℕ) → IfSome (state_step f h ns o) (Change old (in_node f h ns at_state) t)
states_change old f h ns t None = tt
states_change old f h ns t (Some n) = node_kept old f h ns at_state (at_pending n) t refl refl refl

pendings_change : (old : Names_data) (f : Format) (h : Head f) (ns : List (NodeTree f)) (s : ℕ) (t : Sign) → IfSome (pending_step f h ns s t) (Change old (in_node f h ns (at_pending s)) t)
pendings_change old One h ns s t = if_change (is_open_bracket t) (in_acts (of_node h ns s) (at_act [])) _
    (λ k. same old (in_node One h ns (at_pending s)) t (in_acts (of_node h ns s) (at_act [])) refl (record { roles = refl; labels = refl; ordinals = refl }) refl)
pendings_change old Two h ns s t = if_change (is_keyword (codes "with") t) (at_pending_number h ns s) _
    (λ k. same old (in_node Two h ns (at_pending s)) t (at_pending_number h ns s) refl (record { roles = refl; labels = refl; ordinals = refl }) refl)

withs_change : (old : Names_data) (h : Head Two) (ns : List (NodeTree Two)) (s : ℕ) (t : Sign) (o : Option ℕ) → IfSome (with_step h ns s o) (Change old (at_pending_number h ns s) t)
withs_change old h ns s t None = tt
withs_change old h ns s t (Some n) = if_change (nat_le n (length h.lists)) (at_above_word h ns s n) _
    (λ k. same old (at_pending_number h ns s) t (at_above_word h ns s n) refl (record { roles = refl; labels = refl; ordinals = refl }) refl)

aboves_change : (old : Names_data) (f : Format) (h : Head f) (ns : List (NodeTree f)) (s : ℕ) (p : PendingTree f) (t : Sign) (o : Option ℕ)
    → IfSome (above_step f h ns s p o) (Change old (in_node f h ns (at_above s p)) t)
aboves_change old f h ns s p t None = tt
aboves_change old f h ns s p t (Some n) = node_kept old f h ns (at_above s p) (at_rank_word s p n) t refl refl refl

ranks_change : (old : Names_data) (f : Format) (h : Head f) (ns : List (NodeTree f)) (s : ℕ) (p : PendingTree f) (a : ℕ) (t : Sign) (o : Option ℕ)
    → IfSome (rank_step f h ns s p a o) (Change old (in_node f h ns (at_rank s p a)) t)
ranks_change old f h ns s p a t None = tt
ranks_change old f h ns s p a t (Some n) = node_kept old f h ns (at_rank s p a) (at_next_word s p a n) t refl refl refl

nexts_change : (old : Names_data) (f : Format) (h : Head f) (ns : List (NodeTree f)) (s : ℕ) (p : PendingTree f) (a r : ℕ) (next : List ℕ) (t : Sign) (o : Option ℕ) (c : Bool)
    → IfSome (next_step f h ns s p a r next o c) (Change old (in_node f h ns (at_next s p a r next)) t)
nexts_change old f h ns s p a r [] t (Some n) c = node_kept old f h ns (at_next s p a r []) (behind_next s p a r n []) t refl refl refl
nexts_change old f h ns s p a r (y ∷ ys) t (Some n) c = node_kept old f h ns (at_next s p a r (y ∷ ys)) (behind_next s p a r y (ys ++ n ∷ [])) t refl refl refl
nexts_change old f h ns s p a r next t None c =
    if_change (c && is_none_of next) (ended f h ns (node_tree f s p a r next)) _ (λ k. node_ends old f h ns (at_next s p a r next) (node_tree f s p a r next) t refl refl refl)

node_change : (old : Names_data) (f : Format) (h : Head f) (ns : List (NodeTree f)) (p : NodeCut f) (t : Sign) → IfSome (node_grows f h ns p t) (Change old (in_node f h ns p) t)
node_change old f h ns at_number t = numbers_change old f h ns t (number_value t) refl
node_change old f h ns at_colon t = if_change (is_colon t) (in_node f h ns at_state) _ (λ k. node_kept old f h ns at_colon at_state t refl refl refl)
node_change old f h ns at_state t = states_change old f h ns t (number_value t)
node_change old f h ns (at_pending s) t = pendings_change old f h ns s t
node_change old f h ns (at_above s p) t = aboves_change old f h ns s p t (number_value t)
node_change old f h ns (at_rank_word s p a) t =
    if_change (is_keyword (codes "rank") t) (in_node f h ns (at_rank s p a)) _ (λ k. node_kept old f h ns (at_rank_word s p a) (at_rank s p a) t refl refl refl)
node_change old f h ns (at_rank s p a) t = ranks_change old f h ns s p a t (number_value t)
node_change old f h ns (at_next_word s p a r) t =
    if_change (is_keyword (codes "next") t) (in_node f h ns (at_nexts s p a r)) _ (λ k. node_kept old f h ns (at_next_word s p a r) (at_nexts s p a r) t refl refl refl)
node_change old f h ns (at_nexts s p a r) t =
    if_change (is_open_bracket t) (in_node f h ns (at_next s p a r [])) _ (λ k. node_kept old f h ns (at_nexts s p a r) (at_next s p a r []) t refl refl refl)
node_change old f h ns (at_next s p a r next) t = nexts_change old f h ns s p a r next t (number_value t) (is_close_bracket t)
node_change old f h ns (behind_next s p a r y ys) t =
    either_change (is_comma t) (is_close_bracket t) (in_node f h ns (at_next s p a r (y ∷ ys))) (ended f h ns (node_tree f s p a r (y ∷ ys))) _
    (node_kept old f h ns (behind_next s p a r y ys) (at_next s p a r (y ∷ ys)) t refl refl refl)
    (node_ends old f h ns (behind_next s p a r y ys) (node_tree f s p a r (y ∷ ys)) t refl refl refl)

-- ---- at any place

role_change : (old : Names_data) (t : Sign) (o : Option (List ℕ)) → plain_text t ≡ o → IfSome (role_step o) (Change old at_role t)
role_change old t None e = tt
role_change old t (Some w) e = inr (inl (record { name = w; fault = ap (fault_of_role old) e; adds = record { roles_are = refl; labels_are = refl; ordinals_are = refl; count_is = refl } }))

alike : (old : Names_data) (c : Cut) (t : Sign) (d : Cut) → fault_of old c t ≡ None → roles_in d ≡ roles_in c → labels_in d ≡ labels_in c → ordinals_in d ≡ ordinals_in c → count_in d ≡ count_in c
    → Change old c t d
alike old c t d f r l o k = same old c t d f (record { roles = r; labels = l; ordinals = o }) k

format_change : (old : Names_data) (x : List ℕ) (t : Sign) (o : Option ℕ) → IfSome (format_step x o) (Change old (at_format_number x) t)
format_change old x t None = tt
format_change old x t (Some n) = if_change (n == 2) (behind_format x) _ (λ h. alike old (at_format_number x) t (behind_format x) refl refl refl refl refl)

bound_change : (old : Names_data) (f : Format) (x : List ℕ) (t : Sign) (o : Option ℕ) → IfSome (bound_step f x o) (Change old (at_bound f x) t)
bound_change old f x t None = tt
bound_change old f x t (Some n) = if_change (is_bound n) (at_brace f x n) _ (λ h. alike old (at_bound f x) t (at_brace f x n) refl refl refl refl refl)

brace_change : (old : Names_data) (f : Format) (x : List ℕ) (b : ℕ) (t : Sign) → Change old (at_brace f x b) t (opened f x b)
brace_change old One x b t = alike old (at_brace One x b) t (opened One x b) refl refl refl refl refl
brace_change old Two x b t = alike old (at_brace Two x b) t (opened Two x b) refl refl refl refl refl

list_change : (old : Names_data) (h : Head Two) (t : Sign) (o : Option ℕ) → IfSome (list_step h o) (Change old (at_list_number h) t)
list_change old h t None = tt
list_change old h t (Some n) = if_change (n == suc (length h.lists)) (at_list_colon h) _ (λ k. alike old (at_list_number h) t (at_list_colon h) refl refl refl refl refl)

-- where a place goes on by a token, that adds to the names, acts or nodes what it is
pub change : (old : Names_data) (c : Cut) (t : Sign) → IfSome (grows c t) (Change old c t)
change old at_begin t = if_change (is_keyword (codes "derivation") t) at_role _ (λ h. alike old at_begin t at_role refl refl refl refl refl)
change old at_role t = role_change old t (plain_text t) refl
change old (behind_role x) t =
    either_change (is_keyword (codes "bound") t) (is_keyword (codes "format") t) (at_bound One x) (at_format_number x) _ (alike old (behind_role x) t (at_bound One x) refl refl refl refl refl)
    (alike old (behind_role x) t (at_format_number x) refl refl refl refl refl)
change old (at_format_number x) t = format_change old x t (number_value t)
change old (behind_format x) t = if_change (is_keyword (codes "bound") t) (at_bound Two x) _ (λ h. alike old (behind_format x) t (at_bound Two x) refl refl refl refl refl)
change old (at_bound f x) t = bound_change old f x t (number_value t)
change old (at_brace f x b) t = if_change (is_open_brace t) (opened f x b) _ (λ h. brace_change old f x b t)
change old (at_lists x b) t = begin_change old (at_lists x b) (first_head Two x b) t refl (record { roles = refl; labels = refl; ordinals = refl; count = refl })
change old (at_list_number h) t = list_change old h t (number_value t)
change old (at_list_colon h) t = if_change (is_colon t) (in_acts (of_list h) (at_act [])) _ (λ k. alike old (at_list_colon h) t (in_acts (of_list h) (at_act [])) refl refl refl refl refl)
change old (in_acts home c) t = acts_change old home c t
change old (in_node f h ns p) t = node_change old f h ns p t
change old (at_pending_number h ns s) t = withs_change old h ns s t (number_value t)
change old (at_above_word h ns s n) t =
    if_change (is_keyword (codes "above") t) (in_node Two h ns (at_above s n)) _ (λ k. alike old (at_above_word h ns s n) t (in_node Two h ns (at_above s n)) refl refl refl refl refl)
change old (at_end d) t = tt
