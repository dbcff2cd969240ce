-- How a place goes on by a token, by the grammar alone, and the tokens before the new place.
use Rattle.std.proofs.Common.{◌≡◌, ℕ, suc, ◌+◌, ◌≤◌, List, [], ◌∷◌, ◌++◌, codes, length, Bool, true, false, ◌&&◌, ◌==◌, nat_le, if◌then◌else◌, Option, Some, None, IfSome, refl, sym, ap, ◌∙◌}
use Rattle.std.proofs.Common.{append_assoc, append-nil, length-append, arith}
use Rattle.std.proofs.lemmas.Bool.{eqb-true, leb-true}
use Rattle.std.proofs.lemmas.List.Elements.{All-append, All-cons, All-nil}
use Rattle.std.proofs.lemmas.Slice.Eq.{bytes_eq-Decides}
use Rattle.std.specs.Option.{option_map}
use Rattle.rs_model.specs.Limits.{IsBound}
use Rattle.rs_model.specs.declared.values.Sort.{Sort}
use Rattle.rs_prefix.specs.declared.earliest.ActKind.{ActKind}
use Rattle.rs_prefix.specs.declared.earliest.ActKind.TheVariants as act
use Rattle.rs_text.specs.Seen.{is_text, plain_text, word_text, sort_named}
use Rattle.rs_text.specs.Signs.{Sign, rec_word, end_word, plain, number, word_sign, bang, question, colon, comma, open_brace, close_brace, open_paren, close_paren, open_bracket, close_bracket}
use Rattle.rs_text.proofs.Arms.{sort_text_is}
use Rattle.rs_text.proofs.Basics.{both, some_is}
use Rattle.rs_text.proofs.Judging.{IsProper}
use Rattle.rs_derivations.specs.declared.formats.Format.{Format}
use Rattle.rs_derivations.specs.declared.formats.Format.TheVariants.{One, Two}
use Rattle.rs_derivations.specs.Cuts.{ActCut, behind_peer, behind_mark, behind_label, behind_paren, behind_sort, ActsCut, at_act, in_act, behind_act, NodeCut, at_number, at_colon, at_state, at_pending, at_above}
use Rattle.rs_derivations.specs.Cuts.{at_rank_word, at_rank, at_next_word, at_nexts, at_next, behind_next, Head, ActsHome, of_node, of_list, Cut, at_begin, at_role, behind_role, at_format_number, behind_format, at_bound}
use Rattle.rs_derivations.specs.Cuts.{at_brace, at_lists, at_list_number, at_list_colon, in_acts, in_node, at_pending_number, at_above_word, at_end, act_cut_signs, elements_with_commas, acts_cut_signs, node_behind_pending}
use Rattle.rs_derivations.specs.Cuts.{node_before_nexts, node_cut_signs, signs_before_nodes, signs_before_node, signs_before_acts, cut_signs, IsBegun, IsAtNode, IsInNode, IsHome, IsPlace}
use Rattle.rs_text.specs.TokenTests.{number_value}
use Rattle.rs_derivations.specs.Feeding.{mark_kind, is_none_of, is_some_of, is_bound}
use Rattle.rs_text.specs.TokenTests.{is_colon, is_comma, is_open_brace, is_close_brace, is_open_bracket, is_close_bracket, is_keyword}
use Rattle.rs_derivations.specs.Lists.{list_with_separators, with_separators}
use Rattle.rs_derivations.specs.Spells.{HasItsList}
use Rattle.rs_derivations.specs.Trees.{ActTree, ListsTree, PendingTree, NodeTree, DerivationTree, mark_sign, act_signs, acts_signs, number_signs, numbers_signs, list_signs, lists_signs_from, lists_signs, pending_signs}
use Rattle.rs_derivations.specs.Trees.{node_signs, nodes_signs, format_signs, head_signs}

-- ---- growth

abbrev pub act_tree : List ℕ → ActKind → List ℕ → Option Sort → ActTree
act_tree p k l s = record { peer = p; kind = k; label = l; sort = s }

abbrev pub node_tree : (f : Format) → ℕ → PendingTree f → ℕ → ℕ → List ℕ → NodeTree f
node_tree f s p a r next = record { state = s; pending = p; above = a; rank = r; next = next }

abbrev pub derivation_tree : (f : Format) → Head f → List (NodeTree f) → DerivationTree
derivation_tree f h ns = record { role = h.role; format = f; bound = h.bound; lists = h.lists; nodes = ns }

-- format 1 has no lists, format 2 none at first
abbrev pub no_lists : (f : Format) → ListsTree f
no_lists One = tt
no_lists Two = []

-- a head with no lists
abbrev pub first_head : (f : Format) → List ℕ → ℕ → Head f
first_head f x b = record { role = x; bound = b; lists = no_lists f }

-- a head with one list more
abbrev pub listed : Head Two → List ActTree → Head Two
listed h acts = record { role = h.role; bound = h.bound; lists = h.lists ++ acts ∷ [] }

abbrev pub acted : List ActTree → ActTree → ActsCut
acted [] a = behind_act a []
acted (x ∷ xs) a = behind_act x (xs ++ a ∷ [])

abbrev pub nexted : (f : Format) → ℕ → PendingTree f → ℕ → ℕ → List ℕ → ℕ → NodeCut f
nexted f s p a r [] n = behind_next s p a r n []
nexted f s p a r (x ∷ xs) n = behind_next s p a r x (xs ++ n ∷ [])

-- within an act

abbrev pub mark_step : List ActTree → List ℕ → Option ActKind → Option ActsCut
mark_step acts p None = None
mark_step acts p (Some k) = Some (in_act acts (behind_mark p k))

abbrev pub label_step : List ActTree → List ℕ → ActKind → Option (List ℕ) → Option ActsCut
label_step acts p k None = None
label_step acts p k (Some l) = Some (in_act acts (behind_label p k l))

abbrev pub is_open_paren : Sign → Bool
is_open_paren open_paren = true
is_open_paren _ = false

abbrev pub is_close_paren : Sign → Bool
is_close_paren close_paren = true
is_close_paren _ = false

abbrev pub sorted_step : List ActTree → List ℕ → ActKind → List ℕ → Option Sort → Option ActsCut
sorted_step acts p k l None = None
sorted_step acts p k l (Some q) = Some (in_act acts (behind_sort p k l q))

abbrev pub sort_step : List ActTree → List ℕ → ActKind → List ℕ → Option (List ℕ) → Bool → Option ActsCut
sort_step acts p k l (Some w) c = sorted_step acts p k l (sort_named w)
sort_step acts p k l None c = if c then Some (acted acts (act_tree p k l None)) else None

abbrev pub act_grows : List ActTree → ActCut → Sign → Option ActsCut
act_grows acts (behind_peer p) t = mark_step acts p (mark_kind t)
act_grows acts (behind_mark p k) t = label_step acts p k (word_text t)
act_grows acts (behind_label p k l) t = if is_open_paren t then Some (in_act acts (behind_paren p k l)) else None
act_grows acts (behind_paren p k l) t = sort_step acts p k l (plain_text t) (is_close_paren t)
act_grows acts (behind_sort p k l q) t = if is_close_paren t then Some (acted acts (act_tree p k l (Some q))) else None

-- after the lists of format 2

abbrev pub first_step : Head Two → Option ℕ → Option Cut
first_step h None = None
first_step h (Some n) = if n == 0 then Some (in_node Two h [] at_colon) else None

abbrev pub begin_step : Head Two → Sign → Option Cut
begin_step h t = if is_keyword (codes "pending") t then Some (at_list_number h) else first_step h (number_value t)

abbrev pub list_step : Head Two → Option ℕ → Option Cut
list_step h None = None
list_step h (Some n) = if n == suc (length h.lists) then Some (at_list_colon h) else None

-- within acts

abbrev pub act_step : ActsHome → List ActTree → Option (List ℕ) → Bool → Option Cut
act_step home acts (Some w) c = Some (in_acts home (in_act acts (behind_peer w)))
act_step (of_node h ns s) acts None c = if c && is_none_of acts then Some (in_node One h ns (at_above s acts)) else None
act_step (of_list h) acts None c = None

abbrev pub acts_end : ActsHome → List ActTree → Sign → Option Cut
acts_end (of_node h ns s) acts t = if is_close_bracket t then Some (in_node One h ns (at_above s acts)) else None
acts_end (of_list h) acts t = begin_step (listed h acts) t

abbrev pub acts_grow : ActsHome → ActsCut → Sign → Option Cut
acts_grow home (at_act acts) t = act_step home acts (plain_text t) (is_close_bracket t)
acts_grow home (in_act acts a) t = option_map (in_acts home) (act_grows acts a t)
acts_grow home (behind_act x xs) t = if is_comma t then Some (in_acts home (at_act (x ∷ xs))) else acts_end home (x ∷ xs) t

-- within a node

abbrev pub number_step : (f : Format) → Head f → List (NodeTree f) → Option ℕ → Bool → Option Cut
number_step f h ns (Some n) c = if n == length ns then Some (in_node f h ns at_colon) else None
number_step f h ns None c = if c && is_some_of ns then Some (at_end (derivation_tree f h ns)) else None

abbrev pub state_step : (f : Format) → Head f → List (NodeTree f) → Option ℕ → Option Cut
state_step f h ns None = None
state_step f h ns (Some n) = Some (in_node f h ns (at_pending n))

abbrev pub pending_step : (f : Format) → Head f → List (NodeTree f) → ℕ → Sign → Option Cut
pending_step One h ns s t = if is_open_bracket t then Some (in_acts (of_node h ns s) (at_act [])) else None
pending_step Two h ns s t = if is_keyword (codes "with") t then Some (at_pending_number h ns s) else None

abbrev pub with_step : Head Two → List (NodeTree Two) → ℕ → Option ℕ → Option Cut
with_step h ns s None = None
with_step h ns s (Some n) = if nat_le n (length h.lists) then Some (at_above_word h ns s n) else None

abbrev pub above_step : (f : Format) → Head f → List (NodeTree f) → ℕ → PendingTree f → Option ℕ → Option Cut
above_step f h ns s p None = None
above_step f h ns s p (Some n) = Some (in_node f h ns (at_rank_word s p n))

abbrev pub rank_step : (f : Format) → Head f → List (NodeTree f) → ℕ → PendingTree f → ℕ → Option ℕ → Option Cut
rank_step f h ns s p a None = None
rank_step f h ns s p a (Some n) = Some (in_node f h ns (at_next_word s p a n))

abbrev pub ended : (f : Format) → Head f → List (NodeTree f) → NodeTree f → Cut
ended f h ns n = in_node f h (ns ++ n ∷ []) at_number

abbrev pub next_step : (f : Format) → Head f → List (NodeTree f) → ℕ → PendingTree f → ℕ → ℕ → List ℕ → Option ℕ → Bool → Option Cut
next_step f h ns s p a r next (Some n) c = Some (in_node f h ns (nexted f s p a r next n))
next_step f h ns s p a r next None c = if c && is_none_of next then Some (ended f h ns (node_tree f s p a r next)) else None

abbrev pub node_grows : (f : Format) → Head f → List (NodeTree f) → NodeCut f → Sign → Option Cut
node_grows f h ns at_number t = number_step f h ns (number_value t) (is_close_brace t)
node_grows f h ns at_colon t = if is_colon t then Some (in_node f h ns at_state) else None
node_grows f h ns at_state t = state_step f h ns (number_value t)
node_grows f h ns (at_pending s) t = pending_step f h ns s t
node_grows f h ns (at_above s p) t = above_step f h ns s p (number_value t)
node_grows f h ns (at_rank_word s p a) t = if is_keyword (codes "rank") t then Some (in_node f h ns (at_rank s p a)) else None
node_grows f h ns (at_rank s p a) t = rank_step f h ns s p a (number_value t)
node_grows f h ns (at_next_word s p a r) t = if is_keyword (codes "next") t then Some (in_node f h ns (at_nexts s p a r)) else None
node_grows f h ns (at_nexts s p a r) t = if is_open_bracket t then Some (in_node f h ns (at_next s p a r [])) else None
node_grows f h ns (at_next s p a r next) t = next_step f h ns s p a r next (number_value t) (is_close_bracket t)
node_grows f h ns (behind_next s p a r x xs) t =
    if is_comma t then Some (in_node f h ns (at_next s p a r (x ∷ xs))) else if is_close_bracket t then Some (ended f h ns (node_tree f s p a r (x ∷ xs))) else None

-- at any place

abbrev pub role_step : Option (List ℕ) → Option Cut
role_step None = None
role_step (Some w) = Some (behind_role w)

abbrev pub format_step : List ℕ → Option ℕ → Option Cut
format_step x None = None
format_step x (Some n) = if n == 2 then Some (behind_format x) else None

abbrev pub bound_step : (f : Format) → List ℕ → Option ℕ → Option Cut
bound_step f x None = None
bound_step f x (Some n) = if is_bound n then Some (at_brace f x n) else None

abbrev pub opened : Format → List ℕ → ℕ → Cut
opened One x b = in_node One (first_head One x b) [] at_number
opened Two x b = at_lists x b

abbrev pub grows : Cut → Sign → Option Cut
grows at_begin t = if is_keyword (codes "derivation") t then Some at_role else None
grows at_role t = role_step (plain_text t)
grows (behind_role x) t = if is_keyword (codes "bound") t then Some (at_bound One x) else if is_keyword (codes "format") t then Some (at_format_number x) else None
grows (at_format_number x) t = format_step x (number_value t)
grows (behind_format x) t = if is_keyword (codes "bound") t then Some (at_bound Two x) else None
grows (at_bound f x) t = bound_step f x (number_value t)
grows (at_brace f x b) t = if is_open_brace t then Some (opened f x b) else None
grows (at_lists x b) t = begin_step (first_head Two x b) t
grows (at_list_number h) t = list_step h (number_value t)
grows (at_list_colon h) t = if is_colon t then Some (in_acts (of_list h) (at_act [])) else None
grows (in_acts home c) t = acts_grow home c t
grows (in_node f h ns p) t = node_grows f h ns p t
grows (at_pending_number h ns s) t = with_step h ns s (number_value t)
grows (at_above_word h ns s n) t = if is_keyword (codes "above") t then Some (in_node Two h ns (at_above s n)) else None
grows (at_end t') t = None

-- ---- which token it was

colon_is : (t : Sign) → is_colon t ≡ true → t ≡ colon
colon_is colon h = refl
colon_is _ h = absurd (cc h)

comma_is : (t : Sign) → is_comma t ≡ true → t ≡ comma
comma_is comma h = refl
comma_is _ h = absurd (cc h)

open_brace_is : (t : Sign) → is_open_brace t ≡ true → t ≡ open_brace
open_brace_is open_brace h = refl
open_brace_is _ h = absurd (cc h)

close_brace_is : (t : Sign) → is_close_brace t ≡ true → t ≡ close_brace
close_brace_is close_brace h = refl
close_brace_is _ h = absurd (cc h)

open_paren_is : (t : Sign) → is_open_paren t ≡ true → t ≡ open_paren
open_paren_is open_paren h = refl
open_paren_is _ h = absurd (cc h)

close_paren_is : (t : Sign) → is_close_paren t ≡ true → t ≡ close_paren
close_paren_is close_paren h = refl
close_paren_is _ h = absurd (cc h)

open_bracket_is : (t : Sign) → is_open_bracket t ≡ true → t ≡ open_bracket
open_bracket_is open_bracket h = refl
open_bracket_is _ h = absurd (cc h)

close_bracket_is : (t : Sign) → is_close_bracket t ≡ true → t ≡ close_bracket
close_bracket_is close_bracket h = refl
close_bracket_is _ h = absurd (cc h)

mark_is : (t : Sign) (k : ActKind) → mark_kind t ≡ Some k → t ≡ mark_sign k
mark_is bang act.Send h = refl
mark_is bang act.Receive h = absurd (cc h)
mark_is question act.Send h = absurd (cc h)
mark_is question act.Receive h = refl
mark_is _ k h = absurd (cc h)

value_is : (t : Sign) (n : ℕ) → number_value t ≡ Some n → t ≡ number n
value_is (number k) n h = ap number (some_is k n h)
value_is _ n h = absurd (cc h)

plain_is : (t : Sign) (w : List ℕ) → plain_text t ≡ Some w → t ≡ plain w
plain_is (plain v) w h = ap plain (some_is v w h)
plain_is _ w h = absurd (cc h)

word_is : (t : Sign) (w : List ℕ) → IsProper t → word_text t ≡ Some w → t ≡ word_sign w
word_is rec_word w p h = ap word_sign (some_is (codes "rec") w h)
word_is end_word w p h = ap word_sign (some_is (codes "end") w h)
word_is (plain v) w p h = sym p ∙ ap word_sign (some_is v w h)
word_is _ w p h = absurd (cc h)

text_is : (o : Option (List ℕ)) (w : List ℕ) → is_text w o ≡ true → o ≡ Some w
text_is None w h = absurd (cc h)
text_is (Some v) w h = ap Some ((bytes_eq-Decides v w).0 h)

keyword_is : (w : List ℕ) (t : Sign) → is_keyword w t ≡ true → t ≡ plain w
keyword_is w t h = plain_is t w (text_is (plain_text t) w h)

-- ---- shapes of lists

pub with_more : {A : Type 0} (f : A → List Sign) (xs ys : List A) → with_separators (comma ∷ []) f (xs ++ ys) ≡ with_separators (comma ∷ []) f xs ++ with_separators (comma ∷ []) f ys
with_more f [] ys = refl
with_more f (x ∷ xs) ys = ap (λ z. comma ∷ (f x ++ z)) (with_more f xs ys) ∙ ap (λ z. comma ∷ z) (sym (append_assoc (f x) (with_separators (comma ∷ []) f xs) (with_separators (comma ∷ []) f ys)))

one_more : {A : Type 0} (f : A → List Sign) (x : A) (xs : List A) (y : A) → list_with_separators (comma ∷ []) f (x ∷ (xs ++ y ∷ [])) ≡ elements_with_commas f (x ∷ xs) ++ f y
one_more f x xs y =
    ap (λ z. f x ++ z) (with_more f xs (y ∷ []) ∙ ap (λ z. with_separators (comma ∷ []) f xs ++ comma ∷ z) (append-nil (f y)))
    ∙ sym (append_assoc (f x ++ with_separators (comma ∷ []) f xs) (comma ∷ []) (f y) ∙ append_assoc (f x) (with_separators (comma ∷ []) f xs) (comma ∷ f y))

pub nodes_more : (f : Format) (n : ℕ) (ns : List (NodeTree f)) (node : NodeTree f) → nodes_signs f n (ns ++ node ∷ []) ≡ nodes_signs f n ns ++ node_signs f (n + length ns) node
nodes_more f n [] node = append-nil (node_signs f n node) ∙ ap (λ z. node_signs f z node) (omega arith)
nodes_more f n (t ∷ ts) node =
    let e : suc n + length ts ≡ n + length (t ∷ ts) = omega arith in
    ap (λ z. node_signs f n t ++ z) (nodes_more f (suc n) ts node ∙ ap (λ z. nodes_signs f (suc n) ts ++ node_signs f z node) e)
    ∙ sym (append_assoc (node_signs f n t) (nodes_signs f (suc n) ts) (node_signs f (n + length (t ∷ ts)) node))

pub lists_more : (n : ℕ) (ls : List (List ActTree)) (acts : List ActTree) → lists_signs_from n (ls ++ acts ∷ []) ≡ lists_signs_from n ls ++ list_signs (n + length ls) acts
lists_more n [] acts = append-nil (list_signs n acts) ∙ ap (λ z. list_signs z acts) (omega arith)
lists_more n (x ∷ xs) acts =
    let e : suc n + length xs ≡ n + length (x ∷ xs) = omega arith in
    ap (λ z. list_signs n x ++ z) (lists_more (suc n) xs acts ∙ ap (λ z. lists_signs_from (suc n) xs ++ list_signs z acts) e)
    ∙ sym (append_assoc (list_signs n x) (lists_signs_from (suc n) xs) (list_signs (n + length (x ∷ xs)) acts))

-- ---- the tokens before the new place

-- the tokens go on by this one, and the new place is one
abbrev pub GoesOn : Cut → Sign → Cut → Type 0
GoesOn c t d = (cut_signs d ≡ cut_signs c ++ t ∷ []) × IsPlace d

if_place : (b : Bool) (d : Cut) (P : Cut → Type 0) → (b ≡ true → P d) → IfSome (if b then Some d else None) P
if_place true d P h = h refl
if_place false d P h = tt

either_place : (b c : Bool) (d e : Cut) (P : Cut → Type 0) → (b ≡ true → P d) → (c ≡ true → P e) → IfSome (if b then Some d else if c then Some e else None) P
either_place true c d e P f k = f refl
either_place false c d e P f k = if_place c e P k

else_place : (b : Bool) (d : Cut) (o : Option Cut) (P : Cut → Type 0) → (b ≡ true → P d) → IfSome o P → IfSome (if b then Some d else o) P
else_place true d o P f k = f refl
else_place false d o P f k = k

some_there : {A : Type 0} (xs : List A) → is_some_of xs ≡ true → 1 ≤ length xs
some_there [] h = absurd (cc h)
some_there (x ∷ xs) h = omega arith

none_there : {A : Type 0} (xs : List A) → is_none_of xs ≡ true → xs ≡ []
none_there [] h = refl
none_there (x ∷ xs) h = absurd (cc h)

-- ---- within acts

acts_on : (home : ActsHome) (c d : ActsCut) (t : Sign) → IsHome home → acts_cut_signs d ≡ acts_cut_signs c ++ t ∷ [] → GoesOn (in_acts home c) t (in_acts home d)
acts_on home c d t right e = (ap (λ z. signs_before_acts home ++ z) e ∙ sym (append_assoc (signs_before_acts home) (acts_cut_signs c) (t ∷ [])), right)

abbrev ActsGrown : ActsCut → Sign → ActsCut → Type 0
ActsGrown c t d = acts_cut_signs d ≡ acts_cut_signs c ++ t ∷ []

acted_signs : (acts : List ActTree) (a : ActTree) → acts_cut_signs (acted acts a) ≡ elements_with_commas act_signs acts ++ act_signs a
acted_signs [] a = append-nil (act_signs a)
acted_signs (x ∷ xs) a = one_more act_signs x xs a

in_signs : (acts : List ActTree) (own more : List Sign) (t : Sign) → more ≡ own ++ t ∷ [] → elements_with_commas act_signs acts ++ more ≡ (elements_with_commas act_signs acts ++ own) ++ t ∷ []
in_signs acts own more t e = ap (λ z. elements_with_commas act_signs acts ++ z) e ∙ sym (append_assoc (elements_with_commas act_signs acts) own (t ∷ []))

if_acts : (b : Bool) (d : ActsCut) (P : ActsCut → Type 0) → (b ≡ true → P d) → IfSome (if b then Some d else None) P
if_acts true d P h = h refl
if_acts false d P h = tt

marks_grow : (acts : List ActTree) (p : List ℕ) (t : Sign) (o : Option ActKind) → mark_kind t ≡ o → IfSome (mark_step acts p o) (ActsGrown (in_act acts (behind_peer p)) t)
marks_grow acts p t None e = tt
marks_grow acts p t (Some k) e = in_signs acts (plain p ∷ []) (plain p ∷ mark_sign k ∷ []) t (ap (λ z. plain p ∷ z ∷ []) (sym (mark_is t k e)))

labels_grow : (acts : List ActTree) (p : List ℕ) (k : ActKind) (t : Sign) (o : Option (List ℕ)) → IsProper t → word_text t ≡ o
    → IfSome (label_step acts p k o) (ActsGrown (in_act acts (behind_mark p k)) t)
labels_grow acts p k t None proper e = tt
labels_grow acts p k t (Some l) proper e =
    in_signs acts (plain p ∷ mark_sign k ∷ []) (plain p ∷ mark_sign k ∷ word_sign l ∷ []) t (ap (λ z. plain p ∷ mark_sign k ∷ z ∷ []) (sym (word_is t l proper e)))

sorted_grow : (acts : List ActTree) (p : List ℕ) (k : ActKind) (l w : List ℕ) (t : Sign) (o : Option Sort) → t ≡ plain w → sort_named w ≡ o
    → IfSome (sorted_step acts p k l o) (ActsGrown (in_act acts (behind_paren p k l)) t)
sorted_grow acts p k l w t None f e = tt
sorted_grow acts p k l w t (Some q) f e =
    in_signs acts (act_cut_signs (behind_paren p k l)) (act_cut_signs (behind_sort p k l q)) t
    (ap (λ z. plain p ∷ mark_sign k ∷ word_sign l ∷ open_paren ∷ z ∷ []) (ap plain (sort_text_is w q e) ∙ sym f))

act_ends : (acts : List ActTree) (a : ActCut) (b : ActTree) (t : Sign) → act_signs b ≡ act_cut_signs a ++ close_paren ∷ [] → t ≡ close_paren → ActsGrown (in_act acts a) t (acted acts b)
act_ends acts a b t e f = acted_signs acts b ∙ in_signs acts (act_cut_signs a) (act_signs b) t (e ∙ ap (λ z. act_cut_signs a ++ z ∷ []) (sym f))

sorts_grow : (acts : List ActTree) (p : List ℕ) (k : ActKind) (l : List ℕ) (t : Sign) (o : Option (List ℕ)) → plain_text t ≡ o
    → IfSome (sort_step acts p k l o (is_close_paren t)) (ActsGrown (in_act acts (behind_paren p k l)) t)
sorts_grow acts p k l t (Some w) e = sorted_grow acts p k l w t (sort_named w) (plain_is t w e) refl
sorts_grow acts p k l t None e =
    if_acts (is_close_paren t) (acted acts (act_tree p k l None)) _ (λ h. act_ends acts (behind_paren p k l) (act_tree p k l None) t refl (close_paren_is t h))

act_signs_grow : (acts : List ActTree) (a : ActCut) (t : Sign) → IsProper t → IfSome (act_grows acts a t) (ActsGrown (in_act acts a) t)
act_signs_grow acts (behind_peer p) t proper = marks_grow acts p t (mark_kind t) refl
act_signs_grow acts (behind_mark p k) t proper = labels_grow acts p k t (word_text t) proper refl
act_signs_grow acts (behind_label p k l) t proper =
    if_acts (is_open_paren t) (in_act acts (behind_paren p k l)) _
    (λ h. in_signs acts (act_cut_signs (behind_label p k l)) (act_cut_signs (behind_paren p k l)) t (ap (λ z. plain p ∷ mark_sign k ∷ word_sign l ∷ z ∷ []) (sym (open_paren_is t h))))
act_signs_grow acts (behind_paren p k l) t proper = sorts_grow acts p k l t (plain_text t) refl
act_signs_grow acts (behind_sort p k l q) t proper =
    if_acts (is_close_paren t) (acted acts (act_tree p k l (Some q))) _ (λ h. act_ends acts (behind_sort p k l q) (act_tree p k l (Some q)) t refl (close_paren_is t h))

to_acts : (home : ActsHome) (c : ActsCut) (t : Sign) (o : Option ActsCut) → IsHome home → IfSome o (ActsGrown c t) → IfSome (option_map (in_acts home) o) (GoesOn (in_acts home c) t)
to_acts home c t None right h = tt
to_acts home c t (Some d) right h = acts_on home c d t right h

-- ---- after acts

-- a token after all lists
begins_on : (c : Cut) (h : Head Two) (t : Sign) (o : Option ℕ) → number_value t ≡ o → cut_signs c ≡ signs_before_nodes Two h → IsBegun Two h [] → IfSome (first_step h o) (GoesOn c t)
begins_on c h t None v e right = tt
begins_on c h t (Some n) v e right =
    if_place (n == 0) (in_node Two h [] at_colon) _ (λ k. (
      ap (λ z. z ++ number 0 ∷ []) (append-nil (signs_before_nodes Two h) ∙ sym e) ∙ ap (λ z. cut_signs c ++ z ∷ []) (ap number (sym (eqb-true n 0 k)) ∙ sym (value_is t n v)),
      (right, tt),
    ))

begin_on : (c : Cut) (h : Head Two) (t : Sign) → cut_signs c ≡ signs_before_nodes Two h → IsBegun Two h [] → IfSome (begin_step h t) (GoesOn c t)
begin_on c h t e right =
    else_place (is_keyword (codes "pending") t) (at_list_number h) (first_step h (number_value t)) _
    (λ k. (ap (λ z. z ++ plain (codes "pending") ∷ []) (sym e) ∙ ap (λ z. cut_signs c ++ z ∷ []) (sym (keyword_is (codes "pending") t k)), right))
    (begins_on c h t (number_value t) refl e right)

-- a list as a whole
list_signs_there : (h : Head Two) (acts : List ActTree) → (signs_before_nodes Two h ++ (plain (codes "pending") ∷ number (suc (length h.lists)) ∷ colon ∷ [])) ++ acts_signs acts ≡ signs_before_nodes Two (listed h acts)
list_signs_there h acts =
    let n : 1 + length h.lists ≡ suc (length h.lists) = omega arith in
    append_assoc (signs_before_nodes Two h) (plain (codes "pending") ∷ number (suc (length h.lists)) ∷ colon ∷ []) (acts_signs acts)
    ∙ append_assoc (head_signs h.role Two h.bound) (lists_signs_from 1 h.lists) (list_signs (suc (length h.lists)) acts)
    ∙ ap (λ z. head_signs h.role Two h.bound ++ z) (ap (λ z. lists_signs_from 1 h.lists ++ list_signs z acts) (sym n) ∙ sym (lists_more 1 h.lists acts))

pub listed_begun : (h : Head Two) (x : ActTree) (xs : List ActTree) → IsBegun Two h [] → IsBegun Two (listed h (x ∷ xs)) []
listed_begun h x xs right = record {
  bound = right.bound;
  lists = All-append (λ acts. 1 ≤ length acts) h.lists ((x ∷ xs) ∷ []) right.lists (All-cons (λ acts. 1 ≤ length acts) (x ∷ xs) [] (omega arith) (All-nil (λ acts. 1 ≤ length acts)));
  numbers = All-nil (λ n. HasItsList Two (listed h (x ∷ xs)).lists n.pending);
}

three : (b m xs ts : List Sign) → b ++ (m ++ (xs ++ ts)) ≡ ((b ++ m) ++ xs) ++ ts
three b m xs ts = sym (append_assoc (b ++ m) xs ts ∙ append_assoc b m (xs ++ ts))

acts_closed : (h : Head One) (ns : List (NodeTree One)) (s : ℕ) (acts : List ActTree) (c : ActsCut) (t : Sign) → IsBegun One h ns → acts_cut_signs c ≡ acts_signs acts → is_close_bracket t ≡ true
    → GoesOn (in_acts (of_node h ns s) c) t (in_node One h ns (at_above s acts))
acts_closed h ns s acts c t right e k = (
  ap (λ z. signs_before_node One h ns ++ (number (length ns) ∷ colon ∷ number s ∷ open_bracket ∷ (acts_signs acts ++ z ∷ []))) (sym (close_bracket_is t k))
      ∙ three (signs_before_node One h ns) (number (length ns) ∷ colon ∷ number s ∷ open_bracket ∷ []) (acts_signs acts) (t ∷ [])
      ∙ ap (λ z. (signs_before_acts (of_node h ns s) ++ z) ++ t ∷ []) (sym e),
  (right, tt),
)

acts_end_on : (home : ActsHome) (x : ActTree) (xs : List ActTree) (t : Sign) → IsHome home → IfSome (acts_end home (x ∷ xs) t) (GoesOn (in_acts home (behind_act x xs)) t)
acts_end_on (of_node h ns s) x xs t right =
    if_place (is_close_bracket t) (in_node One h ns (at_above s (x ∷ xs))) _ (λ k. acts_closed h ns s (x ∷ xs) (behind_act x xs) t right refl k)
acts_end_on (of_list h) x xs t right = begin_on (in_acts (of_list h) (behind_act x xs)) (listed h (x ∷ xs)) t (list_signs_there h (x ∷ xs)) (listed_begun h x xs right)

no_acts : (acts : List ActTree) → acts ≡ [] → elements_with_commas act_signs acts ≡ acts_signs acts
no_acts [] e = refl
no_acts (x ∷ xs) e = absurd (cc e)

peers_grow : (home : ActsHome) (acts : List ActTree) (t : Sign) (o : Option (List ℕ)) → IsHome home → plain_text t ≡ o
    → IfSome (act_step home acts o (is_close_bracket t)) (GoesOn (in_acts home (at_act acts)) t)
peers_grow home acts t (Some w) right e =
    acts_on home (at_act acts) (in_act acts (behind_peer w)) t right (ap (λ z. elements_with_commas act_signs acts ++ z ∷ []) (sym (plain_is t w e)))
peers_grow (of_node h ns s) acts t None right e = if_place (is_close_bracket t && is_none_of acts) (in_node One h ns (at_above s acts)) _ (λ g.
    let k = both (is_close_bracket t) (is_none_of acts) g in acts_closed h ns s acts (at_act acts) t right (no_acts acts (none_there acts k.1)) k.0)
peers_grow (of_list h) acts t None right e = tt

acts_signs_grow : (home : ActsHome) (c : ActsCut) (t : Sign) → IsHome home → IsProper t → IfSome (acts_grow home c t) (GoesOn (in_acts home c) t)
acts_signs_grow home (at_act acts) t right proper = peers_grow home acts t (plain_text t) right refl
acts_signs_grow home (in_act acts a) t right proper = to_acts home (in_act acts a) t (act_grows acts a t) right (act_signs_grow acts a t proper)
acts_signs_grow home (behind_act x xs) t right proper =
    else_place (is_comma t) (in_acts home (at_act (x ∷ xs))) (acts_end home (x ∷ xs) t) _
    (λ k. acts_on home (behind_act x xs) (at_act (x ∷ xs)) t right (ap (λ z. acts_signs (x ∷ xs) ++ z ∷ []) (sym (comma_is t k))))
    (acts_end_on home x xs t right)

-- ---- within a node

node_on : (f : Format) (h : Head f) (ns : List (NodeTree f)) (p q : NodeCut f) (t : Sign) → IsBegun f h ns → IsInNode f h.lists ns q
    → node_cut_signs f (length ns) q ≡ node_cut_signs f (length ns) p ++ t ∷ [] → GoesOn (in_node f h ns p) t (in_node f h ns q)
node_on f h ns p q t right own e =
    (ap (λ z. signs_before_node f h ns ++ z) e ∙ sym (append_assoc (signs_before_node f h ns) (node_cut_signs f (length ns) p) (t ∷ [])), (right, own))

-- a node after its pending acts
on_pending : (f : Format) (n s : ℕ) (p : PendingTree f) (more : List Sign) (t : Sign) → node_behind_pending f n s p ++ (more ++ t ∷ []) ≡ (node_behind_pending f n s p ++ more) ++ t ∷ []
on_pending f n s p more t = sym (append_assoc (node_behind_pending f n s p) more (t ∷ []))

nexted_signs : (f : Format) (n s : ℕ) (p : PendingTree f) (a r : ℕ) (next : List ℕ) (k : ℕ)
    → node_cut_signs f n (nexted f s p a r next k) ≡ (node_before_nexts f n s p a r ++ elements_with_commas number_signs next) ++ number k ∷ []
nexted_signs f n s p a r [] k = sym (append_assoc (node_before_nexts f n s p a r) [] (number k ∷ []))
nexted_signs f n s p a r (x ∷ xs) k =
    ap (λ z. node_before_nexts f n s p a r ++ z) (one_more number_signs x xs k) ∙ sym (append_assoc (node_before_nexts f n s p a r) (elements_with_commas number_signs (x ∷ xs)) (number k ∷ []))

-- a node as far as after its last next, and "]"
node_whole : (f : Format) (n s : ℕ) (p : PendingTree f) (a r : ℕ) (next : List ℕ)
    → node_signs f n (node_tree f s p a r next) ≡ (node_before_nexts f n s p a r ++ numbers_signs next) ++ close_bracket ∷ []
node_whole f n s p a r next =
    ap (λ z. number n ∷ colon ∷ number s ∷ z)
    (three (pending_signs f p) (number a ∷ plain (codes "rank") ∷ number r ∷ plain (codes "next") ∷ open_bracket ∷ []) (numbers_signs next) (close_bracket ∷ []))

at_node_behind : (f : Format) (ns : List (NodeTree f)) (n : NodeTree f) → IsAtNode f (ns ++ n ∷ [])
at_node_behind One ns n = tt
at_node_behind Two ns n = let e = length-append ns (n ∷ []) in omega arith

pub begun_more : (f : Format) (h : Head f) (ns : List (NodeTree f)) (n : NodeTree f) → IsBegun f h ns → HasItsList f h.lists n.pending → IsBegun f h (ns ++ n ∷ [])
begun_more f h ns n right own = record {
  bound = right.bound;
  lists = right.lists;
  numbers = All-append (λ m. HasItsList f h.lists m.pending) ns (n ∷ []) right.numbers
      (All-cons (λ m. HasItsList f h.lists m.pending) n [] own (All-nil (λ m. HasItsList f h.lists m.pending)));
}

node_ends : (f : Format) (h : Head f) (ns : List (NodeTree f)) (p : NodeCut f) (n : NodeTree f) (t : Sign) → IsBegun f h ns → HasItsList f h.lists n.pending
    → node_signs f (length ns) n ≡ node_cut_signs f (length ns) p ++ t ∷ [] → GoesOn (in_node f h ns p) t (ended f h ns n)
node_ends f h ns p n t right own e =
    let z : 0 + length ns ≡ length ns = omega arith in (
      append-nil (signs_before_node f h (ns ++ n ∷ [])) ∙ ap (λ z. signs_before_nodes f h ++ z) (nodes_more f 0 ns n ∙ ap (λ z. nodes_signs f 0 ns ++ z) (ap (λ z. node_signs f z n) z ∙ e))
          ∙ three (signs_before_nodes f h) (nodes_signs f 0 ns) (node_cut_signs f (length ns) p) (t ∷ []),
      (begun_more f h ns n right own, at_node_behind f ns n),
    )

numbers_grow : (f : Format) (h : Head f) (ns : List (NodeTree f)) (t : Sign) (o : Option ℕ) → IsBegun f h ns → number_value t ≡ o
    → IfSome (number_step f h ns o (is_close_brace t)) (GoesOn (in_node f h ns at_number) t)
numbers_grow f h ns t (Some n) right e =
    if_place (n == length ns) (in_node f h ns at_colon) _
    (λ k. node_on f h ns at_number at_colon t right tt (ap (λ z. z ∷ []) (ap number (sym (eqb-true n (length ns) k)) ∙ sym (value_is t n e))))
numbers_grow f h ns t None right e = if_place (is_close_brace t && is_some_of ns) (at_end (derivation_tree f h ns)) _ (λ g.
    let k = both (is_close_brace t) (is_some_of ns) g in (
      sym (append_assoc (head_signs h.role f h.bound) (lists_signs f h.lists) (nodes_signs f 0 ns ++ close_brace ∷ []))
          ∙ sym (append_assoc (signs_before_nodes f h) (nodes_signs f 0 ns) (close_brace ∷ []))
          ∙ ap (λ z. signs_before_node f h ns ++ z ∷ []) (sym (close_brace_is t k.0))
          ∙ ap (λ z. z ++ t ∷ []) (sym (append-nil (signs_before_node f h ns))),
      record { bound = right.bound; some = some_there ns k.1; lists = right.lists; numbers = right.numbers },
    ))

states_grow : (f : Format) (h : Head f) (ns : List (NodeTree f)) (t : Sign) (o : Option ℕ) → IsBegun f h ns → number_value t ≡ o → IfSome (state_step f h ns o) (GoesOn (in_node f h ns at_state) t)
states_grow f h ns t None right e = tt
states_grow f h ns t (Some n) right e = node_on f h ns at_state (at_pending n) t right tt (ap (λ z. number (length ns) ∷ colon ∷ z ∷ []) (sym (value_is t n e)))

pendings_grow : (f : Format) (h : Head f) (ns : List (NodeTree f)) (s : ℕ) (t : Sign) → IsBegun f h ns → IfSome (pending_step f h ns s t) (GoesOn (in_node f h ns (at_pending s)) t)
pendings_grow One h ns s t right = if_place (is_open_bracket t) (in_acts (of_node h ns s) (at_act [])) _ (λ k. (
  append-nil (signs_before_acts (of_node h ns s)) ∙ ap (λ z. signs_before_node One h ns ++ (number (length ns) ∷ colon ∷ number s ∷ z ∷ [])) (sym (open_bracket_is t k))
      ∙ sym (append_assoc (signs_before_node One h ns) (number (length ns) ∷ colon ∷ number s ∷ []) (t ∷ [])),
  right,
))
pendings_grow Two h ns s t right = if_place (is_keyword (codes "with") t) (at_pending_number h ns s) _ (λ k. (
  ap (λ z. signs_before_node Two h ns ++ (number (length ns) ∷ colon ∷ number s ∷ z ∷ [])) (sym (keyword_is (codes "with") t k))
      ∙ sym (append_assoc (signs_before_node Two h ns) (number (length ns) ∷ colon ∷ number s ∷ []) (t ∷ [])),
  right,
))

withs_grow : (h : Head Two) (ns : List (NodeTree Two)) (s : ℕ) (t : Sign) (o : Option ℕ) → IsBegun Two h ns → number_value t ≡ o
    → IfSome (with_step h ns s o) (GoesOn (at_pending_number h ns s) t)
withs_grow h ns s t None right e = tt
withs_grow h ns s t (Some n) right e = if_place (nat_le n (length h.lists)) (at_above_word h ns s n) _ (λ k. (
  ap (λ z. signs_before_node Two h ns ++ (number (length ns) ∷ colon ∷ number s ∷ plain (codes "with") ∷ z ∷ [])) (sym (value_is t n e))
      ∙ sym (append_assoc (signs_before_node Two h ns) (number (length ns) ∷ colon ∷ number s ∷ plain (codes "with") ∷ []) (t ∷ [])),
  (right, leb-true n (length h.lists) k),
))

aboves_grow : (f : Format) (h : Head f) (ns : List (NodeTree f)) (s : ℕ) (p : PendingTree f) (t : Sign) (o : Option ℕ) → IsBegun f h ns → HasItsList f h.lists p → number_value t ≡ o
    → IfSome (above_step f h ns s p o) (GoesOn (in_node f h ns (at_above s p)) t)
aboves_grow f h ns s p t None right own e = tt
aboves_grow f h ns s p t (Some n) right own e =
    node_on f h ns (at_above s p) (at_rank_word s p n) t right own (ap (λ z. node_behind_pending f (length ns) s p ++ z ∷ []) (sym (value_is t n e)))

ranks_grow : (f : Format) (h : Head f) (ns : List (NodeTree f)) (s : ℕ) (p : PendingTree f) (a : ℕ) (t : Sign) (o : Option ℕ) → IsBegun f h ns → HasItsList f h.lists p → number_value t ≡ o
    → IfSome (rank_step f h ns s p a o) (GoesOn (in_node f h ns (at_rank s p a)) t)
ranks_grow f h ns s p a t None right own e = tt
ranks_grow f h ns s p a t (Some n) right own e =
    node_on f h ns (at_rank s p a) (at_next_word s p a n) t right own
    (ap (λ z. node_behind_pending f (length ns) s p ++ (number a ∷ plain (codes "rank") ∷ z ∷ [])) (sym (value_is t n e))
    ∙ on_pending f (length ns) s p (number a ∷ plain (codes "rank") ∷ []) t)

no_numbers : (next : List ℕ) → next ≡ [] → numbers_signs next ≡ elements_with_commas number_signs next
no_numbers [] e = refl
no_numbers (x ∷ xs) e = absurd (cc e)

nexted_own : (f : Format) (lists : ListsTree f) (ns : List (NodeTree f)) (s : ℕ) (p : PendingTree f) (a r : ℕ) (next : List ℕ) (n : ℕ) → HasItsList f lists p
    → IsInNode f lists ns (nexted f s p a r next n)
nexted_own f lists ns s p a r [] n own = own
nexted_own f lists ns s p a r (x ∷ xs) n own = own

nexts_grow : (f : Format) (h : Head f) (ns : List (NodeTree f)) (s : ℕ) (p : PendingTree f) (a r : ℕ) (next : List ℕ) (t : Sign) (o : Option ℕ) → IsBegun f h ns → HasItsList f h.lists p
    → number_value t ≡ o → IfSome (next_step f h ns s p a r next o (is_close_bracket t)) (GoesOn (in_node f h ns (at_next s p a r next)) t)
nexts_grow f h ns s p a r next t (Some n) right own e =
    node_on f h ns (at_next s p a r next) (nexted f s p a r next n) t right (nexted_own f h.lists ns s p a r next n own)
    (nexted_signs f (length ns) s p a r next n ∙ ap (λ z. (node_before_nexts f (length ns) s p a r ++ elements_with_commas number_signs next) ++ z ∷ []) (sym (value_is t n e)))
nexts_grow f h ns s p a r next t None right own e = if_place (is_close_bracket t && is_none_of next) (ended f h ns (node_tree f s p a r next)) _ (λ g.
    let k = both (is_close_bracket t) (is_none_of next) g in
    node_ends f h ns (at_next s p a r next) (node_tree f s p a r next) t right own
    (node_whole f (length ns) s p a r next ∙ ap (λ z. (node_before_nexts f (length ns) s p a r ++ z) ++ close_bracket ∷ []) (no_numbers next (none_there next k.1))
    ∙ ap (λ z. (node_before_nexts f (length ns) s p a r ++ elements_with_commas number_signs next) ++ z ∷ []) (sym (close_bracket_is t k.0))))

node_signs_grow : (f : Format) (h : Head f) (ns : List (NodeTree f)) (p : NodeCut f) (t : Sign) → IsBegun f h ns → IsInNode f h.lists ns p → IfSome (node_grows f h ns p t) (GoesOn (in_node f h ns p) t)
node_signs_grow f h ns at_number t right own = numbers_grow f h ns t (number_value t) right refl
node_signs_grow f h ns at_colon t right own =
    if_place (is_colon t) (in_node f h ns at_state) _ (λ k. node_on f h ns at_colon at_state t right tt (ap (λ z. number (length ns) ∷ z ∷ []) (sym (colon_is t k))))
node_signs_grow f h ns at_state t right own = states_grow f h ns t (number_value t) right refl
node_signs_grow f h ns (at_pending s) t right own = pendings_grow f h ns s t right
node_signs_grow f h ns (at_above s p) t right own = aboves_grow f h ns s p t (number_value t) right own refl
node_signs_grow f h ns (at_rank_word s p a) t right own =
    if_place (is_keyword (codes "rank") t) (in_node f h ns (at_rank s p a)) _
    (λ k. node_on f h ns (at_rank_word s p a) (at_rank s p a) t right own
    (ap (λ z. node_behind_pending f (length ns) s p ++ (number a ∷ z ∷ [])) (sym (keyword_is (codes "rank") t k)) ∙ on_pending f (length ns) s p (number a ∷ []) t))
node_signs_grow f h ns (at_rank s p a) t right own = ranks_grow f h ns s p a t (number_value t) right own refl
node_signs_grow f h ns (at_next_word s p a r) t right own =
    if_place (is_keyword (codes "next") t) (in_node f h ns (at_nexts s p a r)) _
    (λ k. node_on f h ns (at_next_word s p a r) (at_nexts s p a r) t right own
    (ap (λ z. node_behind_pending f (length ns) s p ++ (number a ∷ plain (codes "rank") ∷ number r ∷ z ∷ [])) (sym (keyword_is (codes "next") t k))
    ∙ on_pending f (length ns) s p (number a ∷ plain (codes "rank") ∷ number r ∷ []) t))
node_signs_grow f h ns (at_nexts s p a r) t right own =
    if_place (is_open_bracket t) (in_node f h ns (at_next s p a r [])) _
    (λ k. node_on f h ns (at_nexts s p a r) (at_next s p a r []) t right own
    (append-nil (node_before_nexts f (length ns) s p a r)
    ∙ ap (λ z. node_behind_pending f (length ns) s p ++ (number a ∷ plain (codes "rank") ∷ number r ∷ plain (codes "next") ∷ z ∷ [])) (sym (open_bracket_is t k))
    ∙ on_pending f (length ns) s p (number a ∷ plain (codes "rank") ∷ number r ∷ plain (codes "next") ∷ []) t))
node_signs_grow f h ns (at_next s p a r next) t right own = nexts_grow f h ns s p a r next t (number_value t) right own refl
node_signs_grow f h ns (behind_next s p a r x xs) t right own =
    either_place (is_comma t) (is_close_bracket t) (in_node f h ns (at_next s p a r (x ∷ xs))) (ended f h ns (node_tree f s p a r (x ∷ xs))) _
    (λ k. node_on f h ns (behind_next s p a r x xs) (at_next s p a r (x ∷ xs)) t right own
    (ap (λ z. node_before_nexts f (length ns) s p a r ++ (numbers_signs (x ∷ xs) ++ z ∷ [])) (sym (comma_is t k))
    ∙ sym (append_assoc (node_before_nexts f (length ns) s p a r) (numbers_signs (x ∷ xs)) (t ∷ []))))
    (λ k. node_ends f h ns (behind_next s p a r x xs) (node_tree f s p a r (x ∷ xs)) t right own
    (node_whole f (length ns) s p a r (x ∷ xs) ∙ ap (λ z. (node_before_nexts f (length ns) s p a r ++ numbers_signs (x ∷ xs)) ++ z ∷ []) (sym (close_bracket_is t k))))

-- ---- at any place

role_place : (t : Sign) (o : Option (List ℕ)) → plain_text t ≡ o → IfSome (role_step o) (GoesOn at_role t)
role_place t None e = tt
role_place t (Some w) e = (ap (λ z. plain (codes "derivation") ∷ z ∷ []) (sym (plain_is t w e)), tt)

format_place : (x : List ℕ) (t : Sign) (o : Option ℕ) → number_value t ≡ o → IfSome (format_step x o) (GoesOn (at_format_number x) t)
format_place x t None e = tt
format_place x t (Some n) e = if_place (n == 2) (behind_format x) _
    (λ k. (ap (λ z. plain (codes "derivation") ∷ plain x ∷ plain (codes "format") ∷ z ∷ []) (ap number (sym (eqb-true n 2 k)) ∙ sym (value_is t n e)), tt))

bound_of : (n : ℕ) → is_bound n ≡ true → IsBound n
bound_of n h = let k = both (nat_le 1 n) (nat_le n 64) h in (leb-true 1 n k.0, leb-true n 64 k.1)

-- the head after its format
on_format : (f : Format) (x : List ℕ) (more : List Sign) (t : Sign)
    → plain (codes "derivation") ∷ plain x ∷ (format_signs f ++ (more ++ t ∷ [])) ≡ (plain (codes "derivation") ∷ plain x ∷ (format_signs f ++ more)) ++ t ∷ []
on_format f x more t = ap (λ z. plain (codes "derivation") ∷ plain x ∷ z) (sym (append_assoc (format_signs f) more (t ∷ [])))

bound_place : (f : Format) (x : List ℕ) (t : Sign) (o : Option ℕ) → number_value t ≡ o → IfSome (bound_step f x o) (GoesOn (at_bound f x) t)
bound_place f x t None e = tt
bound_place f x t (Some n) e = if_place (is_bound n) (at_brace f x n) _ (λ k. (
  ap (λ z. plain (codes "derivation") ∷ plain x ∷ (format_signs f ++ (plain (codes "bound") ∷ z ∷ []))) (sym (value_is t n e)) ∙ on_format f x (plain (codes "bound") ∷ []) t,
  bound_of n k,
))

pub first_begun : (f : Format) (x : List ℕ) (b : ℕ) → IsBound b → IsBegun f (first_head f x b) []
first_begun One x b right = record { bound = right; lists = tt; numbers = All-nil (λ n. HasItsList One (first_head One x b).lists n.pending) }
first_begun Two x b right = record { bound = right; lists = All-nil (λ acts. 1 ≤ length acts); numbers = All-nil (λ n. HasItsList Two (first_head Two x b).lists n.pending) }

brace_place : (f : Format) (x : List ℕ) (b : ℕ) (t : Sign) → IsBound b → is_open_brace t ≡ true → GoesOn (at_brace f x b) t (opened f x b)
brace_place One x b t right k = (ap (λ z. plain (codes "derivation") ∷ plain x ∷ plain (codes "bound") ∷ number b ∷ z ∷ []) (sym (open_brace_is t k)), (first_begun One x b right, tt))
brace_place Two x b t right k =
    (ap (λ z. plain (codes "derivation") ∷ plain x ∷ plain (codes "format") ∷ number 2 ∷ plain (codes "bound") ∷ number b ∷ z ∷ []) (sym (open_brace_is t k)), right)

list_place : (h : Head Two) (t : Sign) (o : Option ℕ) → IsBegun Two h [] → number_value t ≡ o → IfSome (list_step h o) (GoesOn (at_list_number h) t)
list_place h t None right e = tt
list_place h t (Some n) right e = if_place (n == suc (length h.lists)) (at_list_colon h) _ (λ k. (
  ap (λ z. signs_before_nodes Two h ++ (plain (codes "pending") ∷ z ∷ [])) (ap number (sym (eqb-true n (suc (length h.lists)) k)) ∙ sym (value_is t n e))
      ∙ sym (append_assoc (signs_before_nodes Two h) (plain (codes "pending") ∷ []) (t ∷ [])),
  right,
))

-- a place goes on by the token to the place after it
pub goes_on : (c : Cut) (t : Sign) → IsPlace c → IsProper t → IfSome (grows c t) (GoesOn c t)
goes_on at_begin t right proper = if_place (is_keyword (codes "derivation") t) at_role _ (λ k. (ap (λ z. z ∷ []) (sym (keyword_is (codes "derivation") t k)), tt))
goes_on at_role t right proper = role_place t (plain_text t) refl
goes_on (behind_role x) t right proper =
    either_place (is_keyword (codes "bound") t) (is_keyword (codes "format") t) (at_bound One x) (at_format_number x) _
    (λ k. (ap (λ z. plain (codes "derivation") ∷ plain x ∷ z ∷ []) (sym (keyword_is (codes "bound") t k)), tt))
    (λ k. (ap (λ z. plain (codes "derivation") ∷ plain x ∷ z ∷ []) (sym (keyword_is (codes "format") t k)), tt))
goes_on (at_format_number x) t right proper = format_place x t (number_value t) refl
goes_on (behind_format x) t right proper = if_place (is_keyword (codes "bound") t) (at_bound Two x) _
    (λ k. (ap (λ z. plain (codes "derivation") ∷ plain x ∷ plain (codes "format") ∷ number 2 ∷ z ∷ []) (sym (keyword_is (codes "bound") t k)), tt))
goes_on (at_bound f x) t right proper = bound_place f x t (number_value t) refl
goes_on (at_brace f x b) t right proper = if_place (is_open_brace t) (opened f x b) _ (λ k. brace_place f x b t right k)
goes_on (at_lists x b) t right proper = begin_on (at_lists x b) (first_head Two x b) t (sym (append-nil (head_signs x Two b))) (first_begun Two x b right)
goes_on (at_list_number h) t right proper = list_place h t (number_value t) right refl
goes_on (at_list_colon h) t right proper = if_place (is_colon t) (in_acts (of_list h) (at_act [])) _ (λ k. (
  append-nil (signs_before_acts (of_list h)) ∙ ap (λ z. signs_before_nodes Two h ++ (plain (codes "pending") ∷ number (suc (length h.lists)) ∷ z ∷ [])) (sym (colon_is t k))
      ∙ sym (append_assoc (signs_before_nodes Two h) (plain (codes "pending") ∷ number (suc (length h.lists)) ∷ []) (t ∷ [])),
  right,
))
goes_on (in_acts home c) t right proper = acts_signs_grow home c t right proper
goes_on (in_node f h ns p) t right proper = node_signs_grow f h ns p t right.0 right.1
goes_on (at_pending_number h ns s) t right proper = withs_grow h ns s t (number_value t) right refl
goes_on (at_above_word h ns s n) t right proper = if_place (is_keyword (codes "above") t) (in_node Two h ns (at_above s n)) _ (λ k. (
  ap (λ z. signs_before_node Two h ns ++ (number (length ns) ∷ colon ∷ number s ∷ plain (codes "with") ∷ number n ∷ z ∷ [])) (sym (keyword_is (codes "above") t k))
      ∙ sym (append_assoc (signs_before_node Two h ns) (number (length ns) ∷ colon ∷ number s ∷ plain (codes "with") ∷ number n ∷ []) (t ∷ [])),
  right,
))
goes_on (at_end d) t right proper = tt
