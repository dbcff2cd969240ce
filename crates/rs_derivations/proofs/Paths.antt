-- The tokens of a place lead to it, so no other place has them; and a derivation can be made of each place.
use Rattle.std.proofs.Common.{◌≡◌, ℕ, suc, ◌≤◌, List, [], ◌∷◌, ◌++◌, drop, codes, length, true, false, if◌then◌else◌, Option, Some, None, IfSome, refl, sym, ap, ◌∙◌, subst, append_assoc, append-nil}
use Rattle.std.proofs.Common.{length-append, arith}
use Rattle.std.proofs.lemmas.Bool.{eq-eqb, le-leb}
use Rattle.std.proofs.lemmas.List.Elements.{All-head, All-tail}
use Rattle.std.specs.List.{All}
use Rattle.std.specs.Option.{option_map}
use Rattle.rs_model.specs.Limits.{IsBound}
use Rattle.rs_model.specs.declared.values.Sort.{Sort}
use Rattle.rs_prefix.specs.declared.earliest.ActKind.{ActKind}
use Rattle.rs_prefix.specs.declared.earliest.ActKind.TheVariants as act
use Rattle.rs_text.specs.Arms.{sort_text}
use Rattle.rs_text.specs.Signs.{Sign, end_word, plain, number, word_sign, bang, colon, comma, open_brace, close_brace, open_paren, close_paren, open_bracket, close_bracket}
use Rattle.rs_text.proofs.Judging.{IsProper}
use Rattle.rs_text.proofs.MessageLaws.{label_seen, sort_seen}
use Rattle.rs_derivations.specs.declared.formats.Format.{Format}
use Rattle.rs_derivations.specs.declared.formats.Format.TheVariants.{One, Two}
use Rattle.rs_derivations.specs.Cuts.{ActCut, behind_peer, behind_mark, behind_label, behind_paren, behind_sort, ActsCut, at_act, in_act, behind_act, NodeCut, at_number, at_colon, at_state, at_pending, at_above}
use Rattle.rs_derivations.specs.Cuts.{at_rank_word, at_rank, at_next_word, at_nexts, at_next, behind_next, Head, ActsHome, of_node, of_list, Cut, at_begin, at_role, behind_role, at_format_number, behind_format, at_bound}
use Rattle.rs_derivations.specs.Cuts.{at_brace, at_lists, at_list_number, at_list_colon, in_acts, in_node, at_pending_number, at_above_word, at_end, act_cut_signs, elements_with_commas, acts_cut_signs, node_behind_pending}
use Rattle.rs_derivations.specs.Cuts.{node_before_nexts, node_cut_signs, signs_before_nodes, cut_signs, IsInNode, IsPlace}
use Rattle.rs_derivations.specs.Faults.{Begins}
use Rattle.rs_derivations.specs.Feeding.{is_bound}
use Rattle.rs_text.specs.TokenTests.{is_comma}
use Rattle.rs_derivations.specs.Lists.{with_separators}
use Rattle.rs_derivations.specs.Spells.{HaveActs, HasItsList, IsFormed}
use Rattle.rs_derivations.specs.Trees.{ActTree, PendingTree, NodeTree, DerivationTree, mark_sign, act_signs, acts_signs, number_signs, numbers_signs, list_signs, lists_signs_from, pending_signs, node_signs}
use Rattle.rs_derivations.specs.Trees.{nodes_signs, rest_signs, head_signs, lists_signs, derivation_signs}
use Rattle.rs_derivations.proofs.Grows.{act_tree, node_tree, derivation_tree, first_head, listed, acted, label_step, sorted_step, begin_step, ended, grows, GoesOn, goes_on}

-- ---- along tokens

abbrev pub along : Option Cut → List Sign → Option Cut
along None ts = None
along (Some c) [] = Some c
along (Some c) (t ∷ ts) = along (grows c t) ts

-- the tokens lead from one place to the other
abbrev pub Path : Cut → List Sign → Cut → Type 0
Path c xs d = along (Some c) xs ≡ Some d

pub along_both : (o : Option Cut) (xs ys : List Sign) → along o (xs ++ ys) ≡ along (along o xs) ys
along_both None xs ys = refl
along_both (Some c) [] ys = refl
along_both (Some c) (t ∷ xs) ys = along_both (grows c t) xs ys

path_then : (c d e : Cut) (xs ys : List Sign) → Path c xs d → Path d ys e → Path c (xs ++ ys) e
path_then c d e xs ys p q = along_both (Some c) xs ys ∙ ap (λ z. along z ys) p ∙ q

path_on : (c d e : Cut) (t : Sign) (ts : List Sign) → grows c t ≡ Some d → Path d ts e → Path c (t ∷ ts) e
path_on c d e t ts g p = ap (λ z. along z ts) g ∙ p

one : (c d : Cut) (t : Sign) → grows c t ≡ Some d → Path c (t ∷ []) d
one c d t g = ap (λ z. along z []) g

-- ---- steps that need a test

marked : (home : ActsHome) (acts : List ActTree) (p : List ℕ) (k : ActKind) → grows (in_acts home (in_act acts (behind_peer p))) (mark_sign k) ≡ Some (in_acts home (in_act acts (behind_mark p k)))
marked home acts p act.Send = refl
marked home acts p act.Receive = refl

labelled : (home : ActsHome) (acts : List ActTree) (p : List ℕ) (k : ActKind) (l : List ℕ)
    → grows (in_acts home (in_act acts (behind_mark p k))) (word_sign l) ≡ Some (in_acts home (in_act acts (behind_label p k l)))
labelled home acts p k l = ap (λ z. option_map (in_acts home) (label_step acts p k z)) (label_seen l)

sorted : (home : ActsHome) (acts : List ActTree) (p : List ℕ) (k : ActKind) (l : List ℕ) (q : Sort)
    → grows (in_acts home (in_act acts (behind_paren p k l))) (plain (sort_text q)) ≡ Some (in_acts home (in_act acts (behind_sort p k l q)))
sorted home acts p k l q = ap (λ z. option_map (in_acts home) (sorted_step acts p k l z)) (sort_seen q)

numbered : (f : Format) (h : Head f) (ns : List (NodeTree f)) → grows (in_node f h ns at_number) (number (length ns)) ≡ Some (in_node f h ns at_colon)
numbered f h ns = ap (λ z. if z then Some (in_node f h ns at_colon) else None) (eq-eqb (length ns) (length ns) refl)

is_bound_of : (b : ℕ) → IsBound b → is_bound b ≡ true
is_bound_of b h = rw (le-leb 1 b h.0, le-leb b 64 h.1) refl

bounded : (f : Format) (x : List ℕ) (b : ℕ) → IsBound b → grows (at_bound f x) (number b) ≡ Some (at_brace f x b)
bounded f x b h = ap (λ z. if z then Some (at_brace f x b) else None) (is_bound_of b h)

list_numbered : (h : Head Two) → grows (at_list_number h) (number (suc (length h.lists))) ≡ Some (at_list_colon h)
list_numbered h = ap (λ z. if z then Some (at_list_colon h) else None) (eq-eqb (suc (length h.lists)) (suc (length h.lists)) refl)

with_numbered : (h : Head Two) (ns : List (NodeTree Two)) (s n : ℕ) → n ≤ length h.lists → grows (at_pending_number h ns s) (number n) ≡ Some (at_above_word h ns s n)
with_numbered h ns s n own = ap (λ z. if z then Some (at_above_word h ns s n) else None) (le-leb n (length h.lists) own)

-- ---- acts

abbrev in_one : ActsHome → List ActTree → ActCut → Cut
in_one home acts a = in_acts home (in_act acts a)

path_paren : (home : ActsHome) (acts : List ActTree) (p : List ℕ) (k : ActKind) (l : List ℕ) → Path (in_acts home (at_act acts)) (act_cut_signs (behind_paren p k l)) (in_one home acts (behind_paren p k l))
path_paren home acts p k l =
    path_on (in_one home acts (behind_peer p)) (in_one home acts (behind_mark p k)) (in_one home acts (behind_paren p k l)) (mark_sign k) (word_sign l ∷ open_paren ∷ []) (marked home acts p k)
    (path_on (in_one home acts (behind_mark p k)) (in_one home acts (behind_label p k l)) (in_one home acts (behind_paren p k l)) (word_sign l) (open_paren ∷ []) (labelled home acts p k l) refl)

path_cut : (home : ActsHome) (acts : List ActTree) (a : ActCut) → Path (in_acts home (at_act acts)) (act_cut_signs a) (in_one home acts a)
path_cut home acts (behind_peer p) = refl
path_cut home acts (behind_mark p k) = one (in_one home acts (behind_peer p)) (in_one home acts (behind_mark p k)) (mark_sign k) (marked home acts p k)
path_cut home acts (behind_label p k l) =
    path_on (in_one home acts (behind_peer p)) (in_one home acts (behind_mark p k)) (in_one home acts (behind_label p k l)) (mark_sign k) (word_sign l ∷ []) (marked home acts p k)
    (one (in_one home acts (behind_mark p k)) (in_one home acts (behind_label p k l)) (word_sign l) (labelled home acts p k l))
path_cut home acts (behind_paren p k l) = path_paren home acts p k l
path_cut home acts (behind_sort p k l q) =
    path_then (in_acts home (at_act acts)) (in_one home acts (behind_paren p k l)) (in_one home acts (behind_sort p k l q)) (act_cut_signs (behind_paren p k l)) (plain (sort_text q) ∷ [])
    (path_paren home acts p k l) (one (in_one home acts (behind_paren p k l)) (in_one home acts (behind_sort p k l q)) (plain (sort_text q)) (sorted home acts p k l q))

path_parts : (home : ActsHome) (acts : List ActTree) (p : List ℕ) (k : ActKind) (l : List ℕ) (q : Option Sort)
    → Path (in_acts home (at_act acts)) (act_signs (act_tree p k l q)) (in_acts home (acted acts (act_tree p k l q)))
path_parts home acts p k l None =
    path_then (in_acts home (at_act acts)) (in_one home acts (behind_paren p k l)) (in_acts home (acted acts (act_tree p k l None))) (act_cut_signs (behind_paren p k l)) (close_paren ∷ [])
    (path_paren home acts p k l) refl
path_parts home acts p k l (Some q) =
    path_then (in_acts home (at_act acts)) (in_one home acts (behind_sort p k l q)) (in_acts home (acted acts (act_tree p k l (Some q)))) (act_cut_signs (behind_sort p k l q)) (close_paren ∷ [])
    (path_cut home acts (behind_sort p k l q)) refl

path_act : (home : ActsHome) (acts : List ActTree) (a : ActTree) → Path (in_acts home (at_act acts)) (act_signs a) (in_acts home (acted acts a))
path_act home acts a = path_parts home acts a.peer a.kind a.label a.sort

-- further acts after the first ones
path_later : (more : List ActTree) (home : ActsHome) (y : ActTree) (ys : List ActTree)
    → Path (in_acts home (behind_act y ys)) (with_separators (comma ∷ []) act_signs more) (in_acts home (behind_act y (ys ++ more)))
path_later [] home y ys = ap (λ z. Some (in_acts home (behind_act y z))) (sym (append-nil ys))
path_later (a ∷ more) home y ys =
    path_on (in_acts home (behind_act y ys)) (in_acts home (at_act (y ∷ ys))) (in_acts home (behind_act y (ys ++ (a ∷ more)))) comma (act_signs a ++ with_separators (comma ∷ []) act_signs more) refl
    (path_then (in_acts home (at_act (y ∷ ys))) (in_acts home (behind_act y (ys ++ a ∷ []))) (in_acts home (behind_act y (ys ++ (a ∷ more)))) (act_signs a)
    (with_separators (comma ∷ []) act_signs more)
    (path_act home (y ∷ ys) a) (path_later more home y (ys ++ a ∷ []) ∙ ap (λ z. Some (in_acts home (behind_act y z))) (append_assoc ys (a ∷ []) more)))

path_first : (home : ActsHome) (y : ActTree) (ys : List ActTree) → Path (in_acts home (at_act [])) (acts_signs (y ∷ ys)) (in_acts home (behind_act y ys))
path_first home y ys =
    path_then (in_acts home (at_act [])) (in_acts home (behind_act y [])) (in_acts home (behind_act y ys)) (act_signs y) (with_separators (comma ∷ []) act_signs ys) (path_act home [] y)
    (path_later ys home y [])

path_opened : (home : ActsHome) (acts : List ActTree) → Path (in_acts home (at_act [])) (elements_with_commas act_signs acts) (in_acts home (at_act acts))
path_opened home [] = refl
path_opened home (y ∷ ys) =
    path_then (in_acts home (at_act [])) (in_acts home (behind_act y ys)) (in_acts home (at_act (y ∷ ys))) (acts_signs (y ∷ ys)) (comma ∷ []) (path_first home y ys) refl

path_in : (home : ActsHome) (c : ActsCut) → Path (in_acts home (at_act [])) (acts_cut_signs c) (in_acts home c)
path_in home (at_act acts) = path_opened home acts
path_in home (in_act acts a) =
    path_then (in_acts home (at_act [])) (in_acts home (at_act acts)) (in_one home acts a) (elements_with_commas act_signs acts) (act_cut_signs a) (path_opened home acts) (path_cut home acts a)
path_in home (behind_act y ys) = path_first home y ys

path_closed : (h : Head One) (ns : List (NodeTree One)) (s : ℕ) (acts : List ActTree)
    → Path (in_acts (of_node h ns s) (at_act [])) (acts_signs acts ++ close_bracket ∷ []) (in_node One h ns (at_above s acts))
path_closed h ns s [] = refl
path_closed h ns s (y ∷ ys) =
    path_then (in_acts (of_node h ns s) (at_act [])) (in_acts (of_node h ns s) (behind_act y ys)) (in_node One h ns (at_above s (y ∷ ys))) (acts_signs (y ∷ ys)) (close_bracket ∷ [])
    (path_first (of_node h ns s) y ys) refl

-- what stands for the pending acts of a node
path_pending : (f : Format) (h : Head f) (ns : List (NodeTree f)) (s : ℕ) (p : PendingTree f) → HasItsList f h.lists p
    → Path (in_node f h ns (at_pending s)) (pending_signs f p) (in_node f h ns (at_above s p))
path_pending One h ns s acts own =
    path_on (in_node One h ns (at_pending s)) (in_acts (of_node h ns s) (at_act [])) (in_node One h ns (at_above s acts)) open_bracket (acts_signs acts ++ close_bracket ∷ []) refl
    (path_closed h ns s acts)
path_pending Two h ns s n own =
    path_on (at_pending_number h ns s) (at_above_word h ns s n) (in_node Two h ns (at_above s n)) (number n) (plain (codes "above") ∷ []) (with_numbered h ns s n own) refl

-- ---- nexts

path_more : (more : List ℕ) (f : Format) (h : Head f) (ns : List (NodeTree f)) (s : ℕ) (p : PendingTree f) (a r y : ℕ) (ys : List ℕ)
    → Path (in_node f h ns (behind_next s p a r y ys)) (with_separators (comma ∷ []) number_signs more) (in_node f h ns (behind_next s p a r y (ys ++ more)))
path_more [] f h ns s p a r y ys = ap (λ z. Some (in_node f h ns (behind_next s p a r y z))) (sym (append-nil ys))
path_more (n ∷ more) f h ns s p a r y ys = path_more more f h ns s p a r y (ys ++ n ∷ []) ∙ ap (λ z. Some (in_node f h ns (behind_next s p a r y z))) (append_assoc ys (n ∷ []) more)

path_next : (f : Format) (h : Head f) (ns : List (NodeTree f)) (s : ℕ) (p : PendingTree f) (a r y : ℕ) (ys : List ℕ)
    → Path (in_node f h ns (at_next s p a r [])) (numbers_signs (y ∷ ys)) (in_node f h ns (behind_next s p a r y ys))
path_next f h ns s p a r y ys = path_more ys f h ns s p a r y []

path_nexts : (f : Format) (h : Head f) (ns : List (NodeTree f)) (s : ℕ) (p : PendingTree f) (a r : ℕ) (next : List ℕ)
    → Path (in_node f h ns (at_next s p a r [])) (elements_with_commas number_signs next) (in_node f h ns (at_next s p a r next))
path_nexts f h ns s p a r [] = refl
path_nexts f h ns s p a r (y ∷ ys) =
    path_then (in_node f h ns (at_next s p a r [])) (in_node f h ns (behind_next s p a r y ys)) (in_node f h ns (at_next s p a r (y ∷ ys))) (numbers_signs (y ∷ ys)) (comma ∷ [])
    (path_next f h ns s p a r y ys) refl

path_end : (f : Format) (h : Head f) (ns : List (NodeTree f)) (s : ℕ) (p : PendingTree f) (a r : ℕ) (next : List ℕ)
    → Path (in_node f h ns (at_next s p a r [])) (numbers_signs next ++ close_bracket ∷ []) (ended f h ns (node_tree f s p a r next))
path_end f h ns s p a r [] = refl
path_end f h ns s p a r (y ∷ ys) =
    path_then (in_node f h ns (at_next s p a r [])) (in_node f h ns (behind_next s p a r y ys)) (ended f h ns (node_tree f s p a r (y ∷ ys))) (numbers_signs (y ∷ ys)) (close_bracket ∷ [])
    (path_next f h ns s p a r y ys) refl

-- ---- nodes

-- to what stands for the pending acts
path_begun : (f : Format) (h : Head f) (ns : List (NodeTree f)) (s : ℕ) (z : Cut) (more : List Sign) → Path (in_node f h ns (at_pending s)) more z
    → Path (in_node f h ns at_number) (number (length ns) ∷ colon ∷ number s ∷ more) z
path_begun f h ns s z more k = path_on (in_node f h ns at_number) (in_node f h ns at_colon) z (number (length ns)) (colon ∷ number s ∷ more) (numbered f h ns) k

path_behind : (f : Format) (h : Head f) (ns : List (NodeTree f)) (s : ℕ) (p : PendingTree f) (z : Cut) (more : List Sign) → HasItsList f h.lists p → Path (in_node f h ns (at_above s p)) more z
    → Path (in_node f h ns at_number) (node_behind_pending f (length ns) s p ++ more) z
path_behind f h ns s p z more own k =
    path_begun f h ns s z (pending_signs f p ++ more) (path_then (in_node f h ns (at_pending s)) (in_node f h ns (at_above s p)) z (pending_signs f p) more (path_pending f h ns s p own) k)

path_above : (f : Format) (h : Head f) (ns : List (NodeTree f)) (s : ℕ) (p : PendingTree f) → HasItsList f h.lists p
    → Path (in_node f h ns at_number) (node_behind_pending f (length ns) s p) (in_node f h ns (at_above s p))
path_above f h ns s p own = path_begun f h ns s (in_node f h ns (at_above s p)) (pending_signs f p) (path_pending f h ns s p own)

path_nexted : (f : Format) (h : Head f) (ns : List (NodeTree f)) (s : ℕ) (p : PendingTree f) (a r : ℕ) (z : Cut) (more : List Sign) → HasItsList f h.lists p
    → Path (in_node f h ns (at_next s p a r [])) more z → Path (in_node f h ns at_number) (node_before_nexts f (length ns) s p a r ++ more) z
path_nexted f h ns s p a r z more own k =
    path_then (in_node f h ns at_number) (in_node f h ns (at_next s p a r [])) z (node_before_nexts f (length ns) s p a r) more
    (path_behind f h ns s p (in_node f h ns (at_next s p a r [])) (number a ∷ plain (codes "rank") ∷ number r ∷ plain (codes "next") ∷ open_bracket ∷ []) own refl) k

path_place : (f : Format) (h : Head f) (ns : List (NodeTree f)) (p : NodeCut f) → IsInNode f h.lists ns p → Path (in_node f h ns at_number) (node_cut_signs f (length ns) p) (in_node f h ns p)
path_place f h ns at_number own = refl
path_place f h ns at_colon own = one (in_node f h ns at_number) (in_node f h ns at_colon) (number (length ns)) (numbered f h ns)
path_place f h ns at_state own = path_on (in_node f h ns at_number) (in_node f h ns at_colon) (in_node f h ns at_state) (number (length ns)) (colon ∷ []) (numbered f h ns) refl
path_place f h ns (at_pending s) own = path_begun f h ns s (in_node f h ns (at_pending s)) [] refl
path_place f h ns (at_above s p) own = path_above f h ns s p own
path_place f h ns (at_rank_word s p a) own = path_behind f h ns s p (in_node f h ns (at_rank_word s p a)) (number a ∷ []) own refl
path_place f h ns (at_rank s p a) own = path_behind f h ns s p (in_node f h ns (at_rank s p a)) (number a ∷ plain (codes "rank") ∷ []) own refl
path_place f h ns (at_next_word s p a r) own = path_behind f h ns s p (in_node f h ns (at_next_word s p a r)) (number a ∷ plain (codes "rank") ∷ number r ∷ []) own refl
path_place f h ns (at_nexts s p a r) own = path_behind f h ns s p (in_node f h ns (at_nexts s p a r)) (number a ∷ plain (codes "rank") ∷ number r ∷ plain (codes "next") ∷ []) own refl
path_place f h ns (at_next s p a r next) own = path_nexted f h ns s p a r (in_node f h ns (at_next s p a r next)) (elements_with_commas number_signs next) own (path_nexts f h ns s p a r next)
path_place f h ns (behind_next s p a r y ys) own = path_nexted f h ns s p a r (in_node f h ns (behind_next s p a r y ys)) (numbers_signs (y ∷ ys)) own (path_next f h ns s p a r y ys)

path_node : (f : Format) (h : Head f) (ns : List (NodeTree f)) (n : NodeTree f) → HasItsList f h.lists n.pending → Path (in_node f h ns at_number) (node_signs f (length ns) n) (ended f h ns n)
path_node f h ns n own = path_behind f h ns n.state n.pending (ended f h ns n) (rest_signs n) own (path_end f h ns n.state n.pending n.above n.rank n.next)

path_nodes : (f : Format) (more : List (NodeTree f)) (h : Head f) (ns : List (NodeTree f)) → All (λ n. HasItsList f h.lists n.pending) more
    → Path (in_node f h ns at_number) (nodes_signs f (length ns) more) (in_node f h (ns ++ more) at_number)
path_nodes f [] h ns own = ap (λ z. Some (in_node f h z at_number)) (sym (append-nil ns))
path_nodes f (n ∷ more) h ns own =
    let size : length (ns ++ n ∷ []) ≡ suc (length ns) = length-append ns (n ∷ []) ∙ omega arith in
    path_then (in_node f h ns at_number) (ended f h ns n) (in_node f h (ns ++ (n ∷ more)) at_number) (node_signs f (length ns) n) (nodes_signs f (suc (length ns)) more)
    (path_node f h ns n (All-head (λ m. HasItsList f h.lists m.pending) n more own))
    (subst (λ (z : ℕ). Path (ended f h ns n) (nodes_signs f z more) (in_node f h ((ns ++ n ∷ []) ++ more) at_number)) size
    (path_nodes f more h (ns ++ n ∷ []) (All-tail (λ m. HasItsList f h.lists m.pending) n more own))
    ∙ ap (λ z. Some (in_node f h z at_number)) (append_assoc ns (n ∷ []) more))

-- ---- lists

abbrev with_lists : Head Two → List (List ActTree) → Head Two
with_lists h lists = record { role = h.role; bound = h.bound; lists = lists }

-- at the place a list or the first node may begin
abbrev IsBehind : Cut → Head Two → Type 0
IsBehind c h = (t : Sign) → is_comma t ≡ false → grows c t ≡ begin_step h t

behind_list : (h : Head Two) (a : ActTree) (later : List ActTree) → IsBehind (in_acts (of_list h) (behind_act a later)) (listed h (a ∷ later))
behind_list h a later = λ t c. ap (λ z. if z then Some (in_acts (of_list h) (at_act (a ∷ later))) else begin_step (listed h (a ∷ later)) t) c

path_list : (c : Cut) (h : Head Two) (a : ActTree) (later : List ActTree) → IsBehind c h → Path c (list_signs (suc (length h.lists)) (a ∷ later)) (in_acts (of_list h) (behind_act a later))
path_list c h a later behind =
    path_on c (at_list_number h) (in_acts (of_list h) (behind_act a later)) (plain (codes "pending")) (number (suc (length h.lists)) ∷ colon ∷ acts_signs (a ∷ later)) (behind (plain (codes "pending")) refl)
    (path_on (at_list_number h) (at_list_colon h) (in_acts (of_list h) (behind_act a later)) (number (suc (length h.lists))) (colon ∷ acts_signs (a ∷ later)) (list_numbered h) (path_first (of_list h) a later))

path_lists : (more : List (List ActTree)) (c : Cut) (h : Head Two) (t : Sign) (d : Cut) → All (λ acts. 1 ≤ length acts) more → IsBehind c h → is_comma t ≡ false
    → begin_step (with_lists h (h.lists ++ more)) t ≡ Some d → Path c (lists_signs_from (suc (length h.lists)) more ++ t ∷ []) d
path_lists [] c h t d some behind apart g = one c d t (behind t apart ∙ ap (λ z. begin_step (with_lists h z) t) (sym (append-nil h.lists)) ∙ g)
path_lists ([] ∷ more) c h t d some behind apart g = let k = All-head (λ acts. 1 ≤ length acts) [] more some in absurd (omega arith)
path_lists ((a ∷ later) ∷ more) c h t d some behind apart g =
    let n : ℕ = suc (length h.lists) in
    let size : length (h.lists ++ (a ∷ later) ∷ []) ≡ n = length-append h.lists ((a ∷ later) ∷ []) ∙ omega arith in
    let rest : Path (in_acts (of_list h) (behind_act a later)) (lists_signs_from (suc (length (h.lists ++ (a ∷ later) ∷ []))) more ++ t ∷ []) d
    = path_lists more (in_acts (of_list h) (behind_act a later)) (listed h (a ∷ later)) t d (All-tail (λ acts. 1 ≤ length acts) (a ∷ later) more some) (behind_list h a later) apart
    (ap (λ z. begin_step (with_lists h z) t) (append_assoc h.lists ((a ∷ later) ∷ []) more) ∙ g) in
    subst (λ (z : List Sign). Path c z d) (sym (append_assoc (list_signs n (a ∷ later)) (lists_signs_from (suc n) more) (t ∷ [])))
    (path_then c (in_acts (of_list h) (behind_act a later)) d (list_signs n (a ∷ later)) (lists_signs_from (suc n) more ++ t ∷ []) (path_list c h a later behind)
    (subst (λ (z : ℕ). Path (in_acts (of_list h) (behind_act a later)) (lists_signs_from (suc z) more ++ t ∷ []) d) size rest))

path_head : (x : List ℕ) (b : ℕ) → IsBound b → Path at_begin (head_signs x Two b) (at_lists x b)
path_head x b right = path_on (at_bound Two x) (at_brace Two x b) (at_lists x b) (number b) (open_brace ∷ []) (bounded Two x b right) refl

-- as far as a token after the lists
path_behind_lists : (h : Head Two) (t : Sign) (d : Cut) → IsBound h.bound → HaveActs Two h.lists → is_comma t ≡ false → begin_step h t ≡ Some d → Path at_begin (signs_before_nodes Two h ++ t ∷ []) d
path_behind_lists h t d bound lists apart g =
    subst (λ (z : List Sign). Path at_begin z d) (sym (append_assoc (head_signs h.role Two h.bound) (lists_signs_from 1 h.lists) (t ∷ [])))
    (path_then at_begin (at_lists h.role h.bound) d (head_signs h.role Two h.bound) (lists_signs_from 1 h.lists ++ t ∷ []) (path_head h.role h.bound bound)
    (path_lists h.lists (at_lists h.role h.bound) (first_head Two h.role h.bound) t d lists (λ u c. refl) apart g))

path_list_number : (h : Head Two) → IsBound h.bound → HaveActs Two h.lists → Path at_begin (signs_before_nodes Two h ++ plain (codes "pending") ∷ []) (at_list_number h)
path_list_number h bound lists = path_behind_lists h (plain (codes "pending")) (at_list_number h) bound lists refl refl

path_in_list : (h : Head Two) (d : Cut) (more : List Sign) → IsBound h.bound → HaveActs Two h.lists → Path (at_list_number h) more d → Path at_begin (signs_before_nodes Two h ++ (plain (codes "pending") ∷ more)) d
path_in_list h d more bound lists k =
    subst (λ (z : List Sign). Path at_begin z d) (append_assoc (signs_before_nodes Two h) (plain (codes "pending") ∷ []) more)
    (path_then at_begin (at_list_number h) d (signs_before_nodes Two h ++ plain (codes "pending") ∷ []) more (path_list_number h bound lists) k)

-- ---- into the nodes

-- in format 2 nodes begin with the number 0
abbrev FromZero : Format → List Sign → Type 0
FromZero One xs = Unit {0}
FromZero Two xs = xs ≡ number 0 ∷ drop 1 xs

path_into : (f : Format) (h : Head f) (xs : List Sign) (d : Cut) → IsBound h.bound → HaveActs f h.lists → FromZero f xs → Path (in_node f h [] at_number) xs d
    → Path at_begin (signs_before_nodes f h ++ xs) d
path_into One h xs d bound lists zero k =
    path_on (at_bound One h.role) (at_brace One h.role h.bound) d (number h.bound) (open_brace ∷ xs) (bounded One h.role h.bound bound) k
path_into Two h xs d bound lists zero k =
    let ys : List Sign = drop 1 xs in
    let rest : Path (in_node Two h [] at_colon) ys d = subst (λ (z : List Sign). Path (in_node Two h [] at_number) z d) zero k in
    subst (λ (z : List Sign). Path at_begin (signs_before_nodes Two h ++ z) d) (sym zero)
    (subst (λ (z : List Sign). Path at_begin z d) (append_assoc (signs_before_nodes Two h) (number 0 ∷ []) ys)
    (path_then at_begin (in_node Two h [] at_colon) d (signs_before_nodes Two h ++ number 0 ∷ []) ys (path_behind_lists h (number 0) (in_node Two h [] at_colon) bound lists refl refl) rest))

zero_there : (f : Format) (h : Head f) (ns : List (NodeTree f)) (p : NodeCut f) → IsInNode f h.lists ns p → FromZero f (nodes_signs f 0 ns ++ node_cut_signs f (length ns) p)
zero_there One h ns p own = tt
zero_there Two h (n ∷ ns) p own = refl
zero_there Two h [] at_number own = absurd (omega arith)
zero_there Two h [] at_colon own = refl
zero_there Two h [] at_state own = refl
zero_there Two h [] (at_pending s) own = refl
zero_there Two h [] (at_above s p) own = refl
zero_there Two h [] (at_rank_word s p a) own = refl
zero_there Two h [] (at_rank s p a) own = refl
zero_there Two h [] (at_next_word s p a r) own = refl
zero_there Two h [] (at_nexts s p a r) own = refl
zero_there Two h [] (at_next s p a r next) own = refl
zero_there Two h [] (behind_next s p a r y ys) own = refl

-- all nodes before, and some tokens of the next one
path_to : (f : Format) (h : Head f) (ns : List (NodeTree f)) (xs : List Sign) (d : Cut) → IsBound h.bound → HaveActs f h.lists → All (λ n. HasItsList f h.lists n.pending) ns
    → FromZero f (nodes_signs f 0 ns ++ xs) → Path (in_node f h ns at_number) xs d → Path at_begin ((signs_before_nodes f h ++ nodes_signs f 0 ns) ++ xs) d
path_to f h ns xs d bound lists own zero k =
    subst (λ (z : List Sign). Path at_begin z d) (sym (append_assoc (signs_before_nodes f h) (nodes_signs f 0 ns) xs))
    (path_into f h (nodes_signs f 0 ns ++ xs) d bound lists zero
    (path_then (in_node f h [] at_number) (in_node f h ns at_number) d (nodes_signs f 0 ns) xs (path_nodes f ns h [] own) k))

closed_by : (f : Format) (h : Head f) (ns : List (NodeTree f)) → 1 ≤ length ns → Path (in_node f h ns at_number) (close_brace ∷ []) (at_end (derivation_tree f h ns))
closed_by f h [] some = absurd (omega arith)
closed_by f h (n ∷ ns) some = refl

zero_closed : (f : Format) (ns : List (NodeTree f)) → 1 ≤ length ns → FromZero f (nodes_signs f 0 ns ++ close_brace ∷ [])
zero_closed One ns some = tt
zero_closed Two [] some = absurd (omega arith)
zero_closed Two (n ∷ ns) some = refl

zero_within : (ns : List (NodeTree Two)) (xs : List Sign) → FromZero Two (nodes_signs Two 0 ns ++ (number (length ns) ∷ xs))
zero_within [] xs = refl
zero_within (n ∷ ns) xs = refl

path_whole : (t : DerivationTree) → IsFormed t → Path at_begin (derivation_signs t) (at_end t)
path_whole t right =
    let h : Head t.format = record { role = t.role; bound = t.bound; lists = t.lists } in
    subst (λ (z : List Sign). Path at_begin z (at_end t))
    (append_assoc (signs_before_nodes t.format h) (nodes_signs t.format 0 t.nodes) (close_brace ∷ [])
    ∙ append_assoc (head_signs t.role t.format t.bound) (lists_signs t.format t.lists) (nodes_signs t.format 0 t.nodes ++ close_brace ∷ []))
    (path_to t.format h t.nodes (close_brace ∷ []) (at_end t) right.bound right.lists right.numbers (zero_closed t.format t.nodes right.some) (closed_by t.format h t.nodes right.some))

path_bound : (f : Format) (x : List ℕ) → Path at_begin (cut_signs (at_bound f x)) (at_bound f x)
path_bound One x = refl
path_bound Two x = refl

path_brace : (f : Format) (x : List ℕ) (b : ℕ) → IsBound b → Path at_begin (cut_signs (at_brace f x b)) (at_brace f x b)
path_brace One x b right = one (at_bound One x) (at_brace One x b) (number b) (bounded One x b right)
path_brace Two x b right = one (at_bound Two x) (at_brace Two x b) (number b) (bounded Two x b right)

path_home : (home : ActsHome) (c : ActsCut) → IsPlace (in_acts home c) → Path at_begin (cut_signs (in_acts home c)) (in_acts home c)
path_home (of_node h ns s) c right =
    let d : Cut = in_acts (of_node h ns s) c in
    let opens : List Sign = number (length ns) ∷ colon ∷ number s ∷ open_bracket ∷ [] in
    subst (λ (z : List Sign). Path at_begin z d) (sym (append_assoc (signs_before_nodes One h ++ nodes_signs One 0 ns) opens (acts_cut_signs c)))
    (path_to One h ns (opens ++ acts_cut_signs c) d right.bound right.lists right.numbers tt
    (path_begun One h ns s d (open_bracket ∷ acts_cut_signs c) (path_in (of_node h ns s) c)))
path_home (of_list h) c right =
    let d : Cut = in_acts (of_list h) c in
    let opens : List Sign = plain (codes "pending") ∷ number (suc (length h.lists)) ∷ colon ∷ [] in
    subst (λ (z : List Sign). Path at_begin z d) (sym (append_assoc (signs_before_nodes Two h) opens (acts_cut_signs c)))
    (path_in_list h d (number (suc (length h.lists)) ∷ colon ∷ acts_cut_signs c) right.bound right.lists
    (path_on (at_list_number h) (at_list_colon h) d (number (suc (length h.lists))) (colon ∷ acts_cut_signs c) (list_numbered h) (path_in (of_list h) c)))

-- the tokens of a place lead to it
pub path : (c : Cut) → IsPlace c → Path at_begin (cut_signs c) c
path at_begin right = refl
path at_role right = refl
path (behind_role x) right = refl
path (at_format_number x) right = refl
path (behind_format x) right = refl
path (at_bound f x) right = path_bound f x
path (at_brace f x b) right = path_brace f x b right
path (at_lists x b) right = path_head x b right
path (at_list_number h) right = path_list_number h right.bound right.lists
path (at_list_colon h) right =
    path_in_list h (at_list_colon h) (number (suc (length h.lists)) ∷ []) right.bound right.lists (one (at_list_number h) (at_list_colon h) (number (suc (length h.lists))) (list_numbered h))
path (in_acts home c) right = path_home home c right
path (in_node f h ns p) right =
    path_to f h ns (node_cut_signs f (length ns) p) (in_node f h ns p) right.0.bound right.0.lists right.0.numbers (zero_there f h ns p right.1) (path_place f h ns p right.1)
path (at_pending_number h ns s) right =
    path_to Two h ns (number (length ns) ∷ colon ∷ number s ∷ plain (codes "with") ∷ []) (at_pending_number h ns s) right.bound right.lists right.numbers
    (zero_within ns (colon ∷ number s ∷ plain (codes "with") ∷ []))
    (path_begun Two h ns s (at_pending_number h ns s) (plain (codes "with") ∷ []) refl)
path (at_above_word h ns s n) right =
    path_to Two h ns (number (length ns) ∷ colon ∷ number s ∷ plain (codes "with") ∷ number n ∷ []) (at_above_word h ns s n) right.0.bound right.0.lists right.0.numbers
    (zero_within ns (colon ∷ number s ∷ plain (codes "with") ∷ number n ∷ []))
    (path_begun Two h ns s (at_above_word h ns s n) (plain (codes "with") ∷ number n ∷ [])
    (one (at_pending_number h ns s) (at_above_word h ns s n) (number n) (with_numbered h ns s n right.1)))
path (at_end t) right = path_whole t right

some_cut : (c d : Cut) → Some c ≡ Some d → c ≡ d
some_cut c d h = cc

-- no two places have the same tokens
pub one_place : (c d : Cut) → IsPlace c → IsPlace d → cut_signs c ≡ cut_signs d → c ≡ d
one_place c d p q e = some_cut c d (sym (path c p) ∙ ap (λ z. along (Some at_begin) z) e ∙ path d q)

-- ---- a derivation of each place

abbrev Completes : Cut → Type 0
Completes c = Begins (cut_signs c)

-- where the place goes on, and the place after can be completed
by_next : (c d : Cut) (t : Sign) → GoesOn c t d → Completes d → Completes c
by_next c d t g h = (h.0, t ∷ h.1, h.2, h.3 ∙ ap (λ z. z ++ h.1) g.0 ∙ append_assoc (cut_signs c) (t ∷ []) h.1)

by_step : (c d : Cut) (t : Sign) → IsPlace c → IsProper t → grows c t ≡ Some d → (IsPlace d → Completes d) → Completes c
by_step c d t right proper g h = let on : GoesOn c t d = subst (λ (z : Option Cut). IfSome z (GoesOn c t)) g (goes_on c t right proper) in by_next c d t on (h on.1)

from_end : (t : DerivationTree) → IsFormed t → Completes (at_end t)
from_end t right = (t, [], right, sym (append-nil (derivation_signs t)))

closes_behind : (f : Format) (h : Head f) (ns : List (NodeTree f)) (n : NodeTree f) → grows (ended f h ns n) close_brace ≡ Some (at_end (derivation_tree f h (ns ++ n ∷ [])))
closes_behind f h [] n = refl
closes_behind f h (m ∷ ns) n = refl

from_ended : (f : Format) (h : Head f) (ns : List (NodeTree f)) (n : NodeTree f) → IsPlace (ended f h ns n) → Completes (ended f h ns n)
from_ended f h ns n right =
    by_step (ended f h ns n) (at_end (derivation_tree f h (ns ++ n ∷ []))) close_brace right tt (closes_behind f h ns n) (from_end (derivation_tree f h (ns ++ n ∷ [])))

from_behind_next : (f : Format) (h : Head f) (ns : List (NodeTree f)) (s : ℕ) (p : PendingTree f) (a r y : ℕ) (ys : List ℕ) → IsPlace (in_node f h ns (behind_next s p a r y ys))
    → Completes (in_node f h ns (behind_next s p a r y ys))
from_behind_next f h ns s p a r y ys right =
    by_step (in_node f h ns (behind_next s p a r y ys)) (ended f h ns (node_tree f s p a r (y ∷ ys))) close_bracket right tt refl (from_ended f h ns (node_tree f s p a r (y ∷ ys)))

from_next : (f : Format) (h : Head f) (ns : List (NodeTree f)) (s : ℕ) (p : PendingTree f) (a r : ℕ) (next : List ℕ) → IsPlace (in_node f h ns (at_next s p a r next))
    → Completes (in_node f h ns (at_next s p a r next))
from_next f h ns s p a r [] right =
    by_step (in_node f h ns (at_next s p a r [])) (in_node f h ns (behind_next s p a r 0 [])) (number 0) right tt refl (from_behind_next f h ns s p a r 0 [])
from_next f h ns s p a r (y ∷ ys) right =
    by_step (in_node f h ns (at_next s p a r (y ∷ ys))) (in_node f h ns (behind_next s p a r y (ys ++ 0 ∷ []))) (number 0) right tt refl (from_behind_next f h ns s p a r y (ys ++ 0 ∷ []))

from_nexts : (f : Format) (h : Head f) (ns : List (NodeTree f)) (s : ℕ) (p : PendingTree f) (a r : ℕ) → IsPlace (in_node f h ns (at_nexts s p a r)) → Completes (in_node f h ns (at_nexts s p a r))
from_nexts f h ns s p a r right = by_step (in_node f h ns (at_nexts s p a r)) (in_node f h ns (at_next s p a r [])) open_bracket right tt refl (from_next f h ns s p a r [])

from_next_word : (f : Format) (h : Head f) (ns : List (NodeTree f)) (s : ℕ) (p : PendingTree f) (a r : ℕ) → IsPlace (in_node f h ns (at_next_word s p a r))
    → Completes (in_node f h ns (at_next_word s p a r))
from_next_word f h ns s p a r right =
    by_step (in_node f h ns (at_next_word s p a r)) (in_node f h ns (at_nexts s p a r)) (plain (codes "next")) right refl refl (from_nexts f h ns s p a r)

from_rank : (f : Format) (h : Head f) (ns : List (NodeTree f)) (s : ℕ) (p : PendingTree f) (a : ℕ) → IsPlace (in_node f h ns (at_rank s p a)) → Completes (in_node f h ns (at_rank s p a))
from_rank f h ns s p a right = by_step (in_node f h ns (at_rank s p a)) (in_node f h ns (at_next_word s p a 0)) (number 0) right tt refl (from_next_word f h ns s p a 0)

from_rank_word : (f : Format) (h : Head f) (ns : List (NodeTree f)) (s : ℕ) (p : PendingTree f) (a : ℕ) → IsPlace (in_node f h ns (at_rank_word s p a))
    → Completes (in_node f h ns (at_rank_word s p a))
from_rank_word f h ns s p a right =
    by_step (in_node f h ns (at_rank_word s p a)) (in_node f h ns (at_rank s p a)) (plain (codes "rank")) right refl refl (from_rank f h ns s p a)

from_above : (f : Format) (h : Head f) (ns : List (NodeTree f)) (s : ℕ) (p : PendingTree f) → IsPlace (in_node f h ns (at_above s p)) → Completes (in_node f h ns (at_above s p))
from_above f h ns s p right = by_step (in_node f h ns (at_above s p)) (in_node f h ns (at_rank_word s p 0)) (number 0) right tt refl (from_rank_word f h ns s p 0)

from_above_word : (h : Head Two) (ns : List (NodeTree Two)) (s n : ℕ) → IsPlace (at_above_word h ns s n) → Completes (at_above_word h ns s n)
from_above_word h ns s n right = by_step (at_above_word h ns s n) (in_node Two h ns (at_above s n)) (plain (codes "above")) right refl refl (from_above Two h ns s n)

from_pending_number : (h : Head Two) (ns : List (NodeTree Two)) (s : ℕ) → IsPlace (at_pending_number h ns s) → Completes (at_pending_number h ns s)
from_pending_number h ns s right = by_step (at_pending_number h ns s) (at_above_word h ns s 0) (number 0) right tt (with_numbered h ns s 0 (omega arith)) (from_above_word h ns s 0)

from_pending : (f : Format) (h : Head f) (ns : List (NodeTree f)) (s : ℕ) → IsPlace (in_node f h ns (at_pending s)) → Completes (in_node f h ns (at_pending s))
from_pending One h ns s right =
    by_step (in_node One h ns (at_pending s)) (in_acts (of_node h ns s) (at_act [])) open_bracket right tt refl
    (λ k. by_step (in_acts (of_node h ns s) (at_act [])) (in_node One h ns (at_above s [])) close_bracket k tt refl (from_above One h ns s []))
from_pending Two h ns s right = by_step (in_node Two h ns (at_pending s)) (at_pending_number h ns s) (plain (codes "with")) right refl refl (from_pending_number h ns s)

from_state : (f : Format) (h : Head f) (ns : List (NodeTree f)) → IsPlace (in_node f h ns at_state) → Completes (in_node f h ns at_state)
from_state f h ns right = by_step (in_node f h ns at_state) (in_node f h ns (at_pending 0)) (number 0) right tt refl (from_pending f h ns 0)

from_colon : (f : Format) (h : Head f) (ns : List (NodeTree f)) → IsPlace (in_node f h ns at_colon) → Completes (in_node f h ns at_colon)
from_colon f h ns right = by_step (in_node f h ns at_colon) (in_node f h ns at_state) colon right tt refl (from_state f h ns)

from_number : (f : Format) (h : Head f) (ns : List (NodeTree f)) → IsPlace (in_node f h ns at_number) → Completes (in_node f h ns at_number)
from_number f h ns right = by_step (in_node f h ns at_number) (in_node f h ns at_colon) (number (length ns)) right tt (numbered f h ns) (from_colon f h ns)

from_node : (f : Format) (h : Head f) (ns : List (NodeTree f)) (p : NodeCut f) → IsPlace (in_node f h ns p) → Completes (in_node f h ns p)
from_node f h ns at_number right = from_number f h ns right
from_node f h ns at_colon right = from_colon f h ns right
from_node f h ns at_state right = from_state f h ns right
from_node f h ns (at_pending s) right = from_pending f h ns s right
from_node f h ns (at_above s p) right = from_above f h ns s p right
from_node f h ns (at_rank_word s p a) right = from_rank_word f h ns s p a right
from_node f h ns (at_rank s p a) right = from_rank f h ns s p a right
from_node f h ns (at_next_word s p a r) right = from_next_word f h ns s p a r right
from_node f h ns (at_nexts s p a r) right = from_nexts f h ns s p a r right
from_node f h ns (at_next s p a r next) right = from_next f h ns s p a r next right
from_node f h ns (behind_next s p a r y ys) right = from_behind_next f h ns s p a r y ys right

from_behind_act : (home : ActsHome) (y : ActTree) (ys : List ActTree) → IsPlace (in_acts home (behind_act y ys)) → Completes (in_acts home (behind_act y ys))
from_behind_act (of_node h ns s) y ys right =
    by_step (in_acts (of_node h ns s) (behind_act y ys)) (in_node One h ns (at_above s (y ∷ ys))) close_bracket right tt refl (from_above One h ns s (y ∷ ys))
from_behind_act (of_list h) y ys right =
    by_step (in_acts (of_list h) (behind_act y ys)) (in_node Two (listed h (y ∷ ys)) [] at_colon) (number 0) right tt refl (from_colon Two (listed h (y ∷ ys)) [])

from_acted : (home : ActsHome) (acts : List ActTree) (a : ActTree) → IsPlace (in_acts home (acted acts a)) → Completes (in_acts home (acted acts a))
from_acted home [] a right = from_behind_act home a [] right
from_acted home (y ∷ ys) a right = from_behind_act home y (ys ++ a ∷ []) right

from_sort : (home : ActsHome) (acts : List ActTree) (p : List ℕ) (k : ActKind) (l : List ℕ) (q : Sort) → IsPlace (in_one home acts (behind_sort p k l q))
    → Completes (in_one home acts (behind_sort p k l q))
from_sort home acts p k l q right =
    by_step (in_one home acts (behind_sort p k l q)) (in_acts home (acted acts (act_tree p k l (Some q)))) close_paren right tt refl (from_acted home acts (act_tree p k l (Some q)))

from_paren : (home : ActsHome) (acts : List ActTree) (p : List ℕ) (k : ActKind) (l : List ℕ) → IsPlace (in_one home acts (behind_paren p k l)) → Completes (in_one home acts (behind_paren p k l))
from_paren home acts p k l right =
    by_step (in_one home acts (behind_paren p k l)) (in_acts home (acted acts (act_tree p k l None))) close_paren right tt refl (from_acted home acts (act_tree p k l None))

from_label : (home : ActsHome) (acts : List ActTree) (p : List ℕ) (k : ActKind) (l : List ℕ) → IsPlace (in_one home acts (behind_label p k l)) → Completes (in_one home acts (behind_label p k l))
from_label home acts p k l right = by_step (in_one home acts (behind_label p k l)) (in_one home acts (behind_paren p k l)) open_paren right tt refl (from_paren home acts p k l)

from_mark : (home : ActsHome) (acts : List ActTree) (p : List ℕ) (k : ActKind) → IsPlace (in_one home acts (behind_mark p k)) → Completes (in_one home acts (behind_mark p k))
from_mark home acts p k right = by_step (in_one home acts (behind_mark p k)) (in_one home acts (behind_label p k (codes "end"))) end_word right tt refl (from_label home acts p k (codes "end"))

from_peer : (home : ActsHome) (acts : List ActTree) (p : List ℕ) → IsPlace (in_one home acts (behind_peer p)) → Completes (in_one home acts (behind_peer p))
from_peer home acts p right = by_step (in_one home acts (behind_peer p)) (in_one home acts (behind_mark p act.Send)) bang right tt refl (from_mark home acts p act.Send)

from_act : (home : ActsHome) (acts : List ActTree) → IsPlace (in_acts home (at_act acts)) → Completes (in_acts home (at_act acts))
from_act home acts right = by_step (in_acts home (at_act acts)) (in_one home acts (behind_peer (codes "a"))) (plain (codes "a")) right refl refl (from_peer home acts (codes "a"))

from_in_act : (home : ActsHome) (acts : List ActTree) (a : ActCut) → IsPlace (in_one home acts a) → Completes (in_one home acts a)
from_in_act home acts (behind_sort p k l q) right = from_sort home acts p k l q right
from_in_act home acts (behind_paren p k l) right = from_paren home acts p k l right
from_in_act home acts (behind_label p k l) right = from_label home acts p k l right
from_in_act home acts (behind_mark p k) right = from_mark home acts p k right
from_in_act home acts (behind_peer p) right = from_peer home acts p right

from_acts : (home : ActsHome) (c : ActsCut) → IsPlace (in_acts home c) → Completes (in_acts home c)
from_acts home (at_act acts) right = from_act home acts right
from_acts home (in_act acts a) right = from_in_act home acts a right
from_acts home (behind_act y ys) right = from_behind_act home y ys right

from_list_colon : (h : Head Two) → IsPlace (at_list_colon h) → Completes (at_list_colon h)
from_list_colon h right = by_step (at_list_colon h) (in_acts (of_list h) (at_act [])) colon right tt refl (from_act (of_list h) [])

from_list_number : (h : Head Two) → IsPlace (at_list_number h) → Completes (at_list_number h)
from_list_number h right = by_step (at_list_number h) (at_list_colon h) (number (suc (length h.lists))) right tt (list_numbered h) (from_list_colon h)

from_lists : (x : List ℕ) (b : ℕ) → IsPlace (at_lists x b) → Completes (at_lists x b)
from_lists x b right = by_step (at_lists x b) (in_node Two (first_head Two x b) [] at_colon) (number 0) right tt refl (from_colon Two (first_head Two x b) [])

from_brace : (f : Format) (x : List ℕ) (b : ℕ) → IsPlace (at_brace f x b) → Completes (at_brace f x b)
from_brace One x b right = by_step (at_brace One x b) (in_node One (first_head One x b) [] at_number) open_brace right tt refl (from_number One (first_head One x b) [])
from_brace Two x b right = by_step (at_brace Two x b) (at_lists x b) open_brace right tt refl (from_lists x b)

from_bound : (f : Format) (x : List ℕ) → Completes (at_bound f x)
from_bound f x = by_step (at_bound f x) (at_brace f x 1) (number 1) tt tt refl (from_brace f x 1)

from_format : (x : List ℕ) → Completes (behind_format x)
from_format x = by_step (behind_format x) (at_bound Two x) (plain (codes "bound")) tt refl refl (λ k. from_bound Two x)

from_format_number : (x : List ℕ) → Completes (at_format_number x)
from_format_number x = by_step (at_format_number x) (behind_format x) (number 2) tt tt refl (λ k. from_format x)

from_behind_role : (x : List ℕ) → Completes (behind_role x)
from_behind_role x = by_step (behind_role x) (at_bound One x) (plain (codes "bound")) tt refl refl (λ k. from_bound One x)

from_role : Completes at_role
from_role = by_step at_role (behind_role (codes "a")) (plain (codes "a")) tt refl refl (λ k. from_behind_role (codes "a"))

-- the tokens of a place begin a derivation
pub completes : (c : Cut) → IsPlace c → Begins (cut_signs c)
completes at_begin right = by_step at_begin at_role (plain (codes "derivation")) tt refl refl (λ k. from_role)
completes at_role right = from_role
completes (behind_role x) right = from_behind_role x
completes (at_format_number x) right = from_format_number x
completes (behind_format x) right = from_format x
completes (at_bound f x) right = from_bound f x
completes (at_brace f x b) right = from_brace f x b right
completes (at_lists x b) right = from_lists x b right
completes (at_list_number h) right = from_list_number h right
completes (at_list_colon h) right = from_list_colon h right
completes (in_acts home c) right = from_acts home c right
completes (in_node f h ns p) right = from_node f h ns p right
completes (at_pending_number h ns s) right = from_pending_number h ns s right
completes (at_above_word h ns s n) right = from_above_word h ns s n right
completes (at_end t) right = from_end t right

-- where a place doesn't go on by a token, no derivation begins so
pub stuck : (c : Cut) (t : Sign) → IsPlace c → grows c t ≡ None → Begins (cut_signs c ++ t ∷ []) → ⊥
stuck c t right h b =
    let e : derivation_signs b.0 ≡ cut_signs c ++ (t ∷ b.1) = b.3 ∙ append_assoc (cut_signs c) (t ∷ []) b.1 in
    let p : along (Some at_begin) (cut_signs c ++ (t ∷ b.1)) ≡ Some (at_end b.0) = subst (λ (z : List Sign). along (Some at_begin) z ≡ Some (at_end b.0)) e (path (at_end b.0) b.2) in
    let q : along (Some at_begin) (cut_signs c ++ (t ∷ b.1)) ≡ along (grows c t) b.1 = along_both (Some at_begin) (cut_signs c) (t ∷ b.1) ∙ ap (λ z. along z (t ∷ b.1)) (path c right) in
    absurd (cc (sym p ∙ q ∙ ap (λ z. along z b.1) h))

-- and no place stands after the end
pub no_further : (tree : DerivationTree) (t : Sign) (ys : List Sign) (d : Cut) → IsFormed tree → IsPlace d → cut_signs d ≡ derivation_signs tree ++ (t ∷ ys) → ⊥
no_further tree t ys d formed right e =
    let q : along (Some at_begin) (derivation_signs tree ++ (t ∷ ys)) ≡ None = along_both (Some at_begin) (derivation_signs tree) (t ∷ ys) ∙ ap (λ z. along z (t ∷ ys)) (path (at_end tree) formed) in
    absurd (cc (sym (path d right) ∙ ap (λ z. along (Some at_begin) z) e ∙ q))
