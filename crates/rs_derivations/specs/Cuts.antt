-- Public: the places of the grammar, and what is wanted there.
use Rattle.std.specs.Prelude.{ℕ, suc, ◌≤◌, List, [], ◌∷◌, ◌++◌, codes, length}
use Rattle.std.specs.List.{All}
use Rattle.rs_model.specs.Limits.{IsBound}
use Rattle.rs_model.specs.declared.values.Sort.{Sort}
use Rattle.rs_prefix.specs.declared.earliest.ActKind.{ActKind}
use Rattle.rs_text.specs.Arms.{sort_text}
use Rattle.rs_text.specs.Signs.{Sign, plain, number, word_sign, colon, comma, open_paren, open_bracket}
use Rattle.rs_text.specs.declared.faults.Wanted.{Wanted}
use Rattle.rs_text.specs.declared.faults.Wanted.TheVariants as wanted
use Rattle.rs_derivations.specs.declared.formats.Format.{Format}
use Rattle.rs_derivations.specs.declared.formats.Format.TheVariants.{One, Two}
use Rattle.rs_derivations.specs.Lists.{list_with_separators}
use Rattle.rs_derivations.specs.Spells.{HaveActs, HasItsList, IsFormed}
use Rattle.rs_derivations.specs.Trees.{ActTree, ListsTree, PendingTree, NodeTree, DerivationTree, mark_sign, act_signs, acts_signs, number_signs, numbers_signs, lists_signs, pending_signs, format_signs, head_signs}
use Rattle.rs_derivations.specs.Trees.{nodes_signs, derivation_signs}

-- an act cut off at a place
pub data ActCut : Type 0 where
  behind_peer : (peer : List ℕ) → ActCut
  behind_mark : (peer : List ℕ) → (kind : ActKind) → ActCut
  behind_label : (peer : List ℕ) → (kind : ActKind) → (label : List ℕ) → ActCut
  behind_paren : (peer : List ℕ) → (kind : ActKind) → (label : List ℕ) → ActCut
  behind_sort : (peer : List ℕ) → (kind : ActKind) → (label : List ℕ) → (sort : Sort) → ActCut

-- acts cut off at a place: where a further act begins, within it, or after it
pub data ActsCut : Type 0 where
  at_act : (acts : List ActTree) → ActsCut
  in_act : (acts : List ActTree) → (cut : ActCut) → ActsCut
  behind_act : (first : ActTree) → (later : List ActTree) → ActsCut

-- a node cut off at a place outside what stands for its pending acts: what stands before the place
pub data NodeCut (f : Format) : Type 0 where
  at_number : NodeCut f
  at_colon : NodeCut f
  at_state : NodeCut f
  at_pending : (state : ℕ) → NodeCut f
  at_above : (state : ℕ) → (pending : PendingTree f) → NodeCut f
  at_rank_word : (state : ℕ) → (pending : PendingTree f) → (above : ℕ) → NodeCut f
  at_rank : (state : ℕ) → (pending : PendingTree f) → (above : ℕ) → NodeCut f
  at_next_word : (state : ℕ) → (pending : PendingTree f) → (above rank : ℕ) → NodeCut f
  at_nexts : (state : ℕ) → (pending : PendingTree f) → (above rank : ℕ) → NodeCut f
  at_next : (state : ℕ) → (pending : PendingTree f) → (above rank : ℕ) → (next : List ℕ) → NodeCut f
  behind_next : (state : ℕ) → (pending : PendingTree f) → (above rank : ℕ) → (first : ℕ) → (later : List ℕ) → NodeCut f

-- what stands before the nodes
pub record Head (f : Format) : Type 0 where
  pub role : List ℕ
  pub bound : ℕ
  pub lists : ListsTree f

-- what stands before acts: in format 1 a node as far as its "[", in format 2 a list as far as its ":"
pub data ActsHome : Type 0 where
  of_node : (head : Head One) → (nodes : List (NodeTree One)) → (state : ℕ) → ActsHome
  of_list : (head : Head Two) → ActsHome

-- a derivation cut off at a place. After the lists of format 2 the place is after the last act, or after the "{"
pub data Cut : Type 0 where
  at_begin : Cut
  at_role : Cut
  behind_role : (role : List ℕ) → Cut
  at_format_number : (role : List ℕ) → Cut
  behind_format : (role : List ℕ) → Cut
  at_bound : (f : Format) → (role : List ℕ) → Cut
  at_brace : (f : Format) → (role : List ℕ) → (bound : ℕ) → Cut
  at_lists : (role : List ℕ) → (bound : ℕ) → Cut
  at_list_number : (head : Head Two) → Cut
  at_list_colon : (head : Head Two) → Cut
  in_acts : (home : ActsHome) → (cut : ActsCut) → Cut
  in_node : (f : Format) → (head : Head f) → (nodes : List (NodeTree f)) → (cut : NodeCut f) → Cut
  at_pending_number : (head : Head Two) → (nodes : List (NodeTree Two)) → (state : ℕ) → Cut
  at_above_word : (head : Head Two) → (nodes : List (NodeTree Two)) → (state list : ℕ) → Cut
  at_end : (tree : DerivationTree) → Cut

-- the tokens of an act before the place
abbrev pub act_cut_signs : ActCut → List Sign
act_cut_signs (behind_peer p) = plain p ∷ []
act_cut_signs (behind_mark p k) = plain p ∷ mark_sign k ∷ []
act_cut_signs (behind_label p k l) = plain p ∷ mark_sign k ∷ word_sign l ∷ []
act_cut_signs (behind_paren p k l) = plain p ∷ mark_sign k ∷ word_sign l ∷ open_paren ∷ []
act_cut_signs (behind_sort p k l s) = plain p ∷ mark_sign k ∷ word_sign l ∷ open_paren ∷ plain (sort_text s) ∷ []

-- a list as far as the place of a further element: nothing, or elements with a comma after each
abbrev pub elements_with_commas : {A : Type 0} → (A → List Sign) → List A → List Sign
elements_with_commas signs [] = []
elements_with_commas signs (x ∷ xs) = list_with_separators (comma ∷ []) signs (x ∷ xs) ++ comma ∷ []

-- the tokens of acts before the place
abbrev pub acts_cut_signs : ActsCut → List Sign
acts_cut_signs (at_act acts) = elements_with_commas act_signs acts
acts_cut_signs (in_act acts a) = elements_with_commas act_signs acts ++ act_cut_signs a
acts_cut_signs (behind_act x xs) = acts_signs (x ∷ xs)

-- a node as far as after its pending acts
abbrev pub node_behind_pending : (f : Format) → ℕ → ℕ → PendingTree f → List Sign
node_behind_pending f n s p = number n ∷ colon ∷ number s ∷ pending_signs f p

-- a node as far as after the "[" of its nexts
abbrev pub node_before_nexts : (f : Format) → ℕ → ℕ → PendingTree f → ℕ → ℕ → List Sign
node_before_nexts f n s p a r = node_behind_pending f n s p ++ (number a ∷ plain (codes "rank") ∷ number r ∷ plain (codes "next") ∷ open_bracket ∷ [])

-- the tokens of the node with the number n before the place
abbrev pub node_cut_signs : (f : Format) → ℕ → NodeCut f → List Sign
node_cut_signs f n at_number = []
node_cut_signs f n at_colon = number n ∷ []
node_cut_signs f n at_state = number n ∷ colon ∷ []
node_cut_signs f n (at_pending s) = number n ∷ colon ∷ number s ∷ []
node_cut_signs f n (at_above s p) = node_behind_pending f n s p
node_cut_signs f n (at_rank_word s p a) = node_behind_pending f n s p ++ (number a ∷ [])
node_cut_signs f n (at_rank s p a) = node_behind_pending f n s p ++ (number a ∷ plain (codes "rank") ∷ [])
node_cut_signs f n (at_next_word s p a r) = node_behind_pending f n s p ++ (number a ∷ plain (codes "rank") ∷ number r ∷ [])
node_cut_signs f n (at_nexts s p a r) = node_behind_pending f n s p ++ (number a ∷ plain (codes "rank") ∷ number r ∷ plain (codes "next") ∷ [])
node_cut_signs f n (at_next s p a r next) = node_before_nexts f n s p a r ++ elements_with_commas number_signs next
node_cut_signs f n (behind_next s p a r x xs) = node_before_nexts f n s p a r ++ numbers_signs (x ∷ xs)

-- the head, and the lists where there are any
abbrev pub signs_before_nodes : (f : Format) → Head f → List Sign
signs_before_nodes f h = head_signs h.role f h.bound ++ lists_signs f h.lists

-- all that stands before a further node
abbrev pub signs_before_node : (f : Format) → Head f → List (NodeTree f) → List Sign
signs_before_node f h nodes = signs_before_nodes f h ++ nodes_signs f 0 nodes

-- all that stands before acts
abbrev pub signs_before_acts : ActsHome → List Sign
signs_before_acts (of_node h nodes s) = signs_before_node One h nodes ++ (number (length nodes) ∷ colon ∷ number s ∷ open_bracket ∷ [])
signs_before_acts (of_list h) = signs_before_nodes Two h ++ (plain (codes "pending") ∷ number (suc (length h.lists)) ∷ colon ∷ [])

-- the tokens before the place
abbrev pub cut_signs : Cut → List Sign
cut_signs at_begin = []
cut_signs at_role = plain (codes "derivation") ∷ []
cut_signs (behind_role x) = plain (codes "derivation") ∷ plain x ∷ []
cut_signs (at_format_number x) = plain (codes "derivation") ∷ plain x ∷ plain (codes "format") ∷ []
cut_signs (behind_format x) = plain (codes "derivation") ∷ plain x ∷ format_signs Two
cut_signs (at_bound f x) = plain (codes "derivation") ∷ plain x ∷ (format_signs f ++ plain (codes "bound") ∷ [])
cut_signs (at_brace f x b) = plain (codes "derivation") ∷ plain x ∷ (format_signs f ++ plain (codes "bound") ∷ number b ∷ [])
cut_signs (at_lists x b) = head_signs x Two b
cut_signs (at_list_number h) = signs_before_nodes Two h ++ (plain (codes "pending") ∷ [])
cut_signs (at_list_colon h) = signs_before_nodes Two h ++ (plain (codes "pending") ∷ number (suc (length h.lists)) ∷ [])
cut_signs (in_acts home c) = signs_before_acts home ++ acts_cut_signs c
cut_signs (in_node f h nodes c) = signs_before_node f h nodes ++ node_cut_signs f (length nodes) c
cut_signs (at_pending_number h nodes s) = signs_before_node Two h nodes ++ (number (length nodes) ∷ colon ∷ number s ∷ plain (codes "with") ∷ [])
cut_signs (at_above_word h nodes s n) = signs_before_node Two h nodes ++ (number (length nodes) ∷ colon ∷ number s ∷ plain (codes "with") ∷ number n ∷ [])
cut_signs (at_end t) = derivation_signs t

-- what is wanted within an act
abbrev pub wanted_in_act : ActCut → Wanted
wanted_in_act (behind_peer p) = wanted.Mark
wanted_in_act (behind_mark p k) = wanted.Label
wanted_in_act (behind_label p k l) = wanted.OpenParen
wanted_in_act (behind_paren p k l) = wanted.SortOrCloseParen
wanted_in_act (behind_sort p k l s) = wanted.CloseParen

-- what is wanted for a further node
abbrev pub node_wanted : {A : Type 0} → List A → Wanted
node_wanted [] = wanted.Node
node_wanted (x ∷ xs) = wanted.NodeOrCloseBrace

-- what is wanted for a further act: in format 1 there may be none
abbrev pub act_wanted : {A : Type 0} → Format → List A → Wanted
act_wanted One [] = wanted.ActOrCloseBracket
act_wanted One (x ∷ xs) = wanted.Role
act_wanted Two acts = wanted.Role

-- what is wanted after an act
abbrev pub wanted_behind_act : Format → Wanted
wanted_behind_act One = wanted.CommaOrCloseBracket
wanted_behind_act Two = wanted.CommaPendingOrNode

-- what is wanted for a further next
abbrev pub next_wanted : {A : Type 0} → List A → Wanted
next_wanted [] = wanted.NumberOrCloseBracket
next_wanted (x ∷ xs) = wanted.Number

-- the format that has acts there
abbrev pub format_of_home : ActsHome → Format
format_of_home (of_node h nodes s) = One
format_of_home (of_list h) = Two

-- what is wanted within acts
abbrev pub wanted_in_acts : Format → ActsCut → Wanted
wanted_in_acts f (at_act acts) = act_wanted f acts
wanted_in_acts f (in_act acts a) = wanted_in_act a
wanted_in_acts f (behind_act x xs) = wanted_behind_act f

-- what is wanted after a node's state
abbrev pub wanted_behind_state : Format → Wanted
wanted_behind_state One = wanted.OpenBracket
wanted_behind_state Two = wanted.With

-- what is wanted within a node after these nodes
abbrev pub wanted_in_node : (f : Format) → List (NodeTree f) → NodeCut f → Wanted
wanted_in_node f nodes at_number = node_wanted nodes
wanted_in_node f nodes at_colon = wanted.Colon
wanted_in_node f nodes at_state = wanted.Number
wanted_in_node f nodes (at_pending s) = wanted_behind_state f
wanted_in_node f nodes (at_above s p) = wanted.Number
wanted_in_node f nodes (at_rank_word s p a) = wanted.Rank
wanted_in_node f nodes (at_rank s p a) = wanted.Number
wanted_in_node f nodes (at_next_word s p a r) = wanted.Next
wanted_in_node f nodes (at_nexts s p a r) = wanted.OpenBracket
wanted_in_node f nodes (at_next s p a r next) = next_wanted next
wanted_in_node f nodes (behind_next s p a r x xs) = wanted.CommaOrCloseBracket

-- what is wanted at the place
abbrev pub wanted_of : Cut → Wanted
wanted_of at_begin = wanted.DerivationOrEnd
wanted_of at_role = wanted.Role
wanted_of (behind_role x) = wanted.BoundOrFormat
wanted_of (at_format_number x) = wanted.FormatNumber
wanted_of (behind_format x) = wanted.Bound
wanted_of (at_bound f x) = wanted.BoundNumber
wanted_of (at_brace f x b) = wanted.OpenBrace
wanted_of (at_lists x b) = wanted.PendingOrNode
wanted_of (at_list_number h) = wanted.PendingNumber
wanted_of (at_list_colon h) = wanted.Colon
wanted_of (in_acts home c) = wanted_in_acts (format_of_home home) c
wanted_of (in_node f h nodes c) = wanted_in_node f nodes c
wanted_of (at_pending_number h nodes s) = wanted.PendingNumber
wanted_of (at_above_word h nodes s n) = wanted.Above
wanted_of (at_end t) = wanted.DerivationOrEnd

-- what stands before a further node can do so: the bound is one, lists have acts, and nodes have their lists
pub record IsBegun (f : Format) (h : Head f) (nodes : List (NodeTree f)) : Type 0 where
  pub bound : IsBound h.bound
  pub lists : HaveActs f h.lists
  pub numbers : All (λ n. HasItsList f h.lists n.pending) nodes

-- where a node's number may stand, or the end: in format 2 after a node, since the first node begins after the lists
abbrev pub IsAtNode : (f : Format) → List (NodeTree f) → Type 0
IsAtNode One nodes = Unit {0}
IsAtNode Two nodes = 1 ≤ length nodes

-- the node as far as it is there has its list
abbrev pub IsInNode : (f : Format) → ListsTree f → List (NodeTree f) → NodeCut f → Type 0
IsInNode f lists nodes at_number = IsAtNode f nodes
IsInNode f lists nodes at_colon = Unit {0}
IsInNode f lists nodes at_state = Unit {0}
IsInNode f lists nodes (at_pending s) = Unit {0}
IsInNode f lists nodes (at_above s p) = HasItsList f lists p
IsInNode f lists nodes (at_rank_word s p a) = HasItsList f lists p
IsInNode f lists nodes (at_rank s p a) = HasItsList f lists p
IsInNode f lists nodes (at_next_word s p a r) = HasItsList f lists p
IsInNode f lists nodes (at_nexts s p a r) = HasItsList f lists p
IsInNode f lists nodes (at_next s p a r next) = HasItsList f lists p
IsInNode f lists nodes (behind_next s p a r x xs) = HasItsList f lists p

-- what stands before acts can do so
abbrev pub IsHome : ActsHome → Type 0
IsHome (of_node h nodes s) = IsBegun One h nodes
IsHome (of_list h) = IsBegun Two h []

-- what stands before the place can do so
abbrev pub IsPlace : Cut → Type 0
IsPlace (at_brace f x b) = IsBound b
IsPlace (at_lists x b) = IsBound b
IsPlace (at_list_number h) = IsBegun Two h []
IsPlace (at_list_colon h) = IsBegun Two h []
IsPlace (in_acts home c) = IsHome home
IsPlace (in_node f h nodes c) = IsBegun f h nodes × IsInNode f h.lists nodes c
IsPlace (at_pending_number h nodes s) = IsBegun Two h nodes
IsPlace (at_above_word h nodes s n) = IsBegun Two h nodes × (n ≤ length h.lists)
IsPlace (at_end t) = IsFormed t
IsPlace _ = Unit {0}
