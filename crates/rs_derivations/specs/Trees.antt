-- Public: how texts of the derivation grammar are built, and their tokens.
use Rattle.std.specs.Prelude.{ℕ, suc, List, [], ◌∷◌, ◌++◌, codes, Option}
use Rattle.rs_model.specs.declared.values.Sort.{Sort}
use Rattle.rs_prefix.specs.declared.earliest.ActKind.{ActKind}
use Rattle.rs_prefix.specs.declared.earliest.ActKind.TheVariants as act
use Rattle.rs_text.specs.Arms.{sort_signs}
use Rattle.rs_text.specs.Signs.{Sign, plain, number, word_sign, bang, question, colon, comma, open_brace, close_brace, open_paren, close_paren, open_bracket, close_bracket}
use Rattle.rs_derivations.specs.declared.formats.Format.{Format}
use Rattle.rs_derivations.specs.declared.formats.Format.TheVariants.{One, Two}
use Rattle.rs_derivations.specs.Lists.{list_with_separators}

-- a pending act: its peer, whether it sends or receives, its label, and its sort where one is shown
pub record ActTree : Type 0 where
  pub peer : List ℕ
  pub kind : ActKind
  pub label : List ℕ
  pub sort : Option Sort

-- what stands before the nodes: in format 1 nothing, in format 2 lists of pending acts. The number of a list is its place,
-- from 1 on
abbrev pub ListsTree : Format → Type 0
ListsTree One = Unit {0}
ListsTree Two = List (List ActTree)

-- what a node has for its pending acts: in format 1 the acts, in format 2 the number of their list, or 0 where there is
-- none
abbrev pub PendingTree : Format → Type 0
PendingTree One = List ActTree
PendingTree Two = ℕ

-- a node. Its number is its place
pub record NodeTree (f : Format) : Type 0 where
  pub state : ℕ
  pub pending : PendingTree f
  pub above : ℕ
  pub rank : ℕ
  pub next : List ℕ

-- a derivation: its role, its format, its bound, its lists where it has any, and its nodes
pub record DerivationTree : Type 0 where
  pub role : List ℕ
  pub format : Format
  pub bound : ℕ
  pub lists : ListsTree format
  pub nodes : List (NodeTree format)

-- ! sends, ? receives
abbrev pub mark_sign : ActKind → Sign
mark_sign act.Send = bang
mark_sign act.Receive = question

-- PEER ( "!" | "?" ) LABEL "(" [ sort ] ")": the peer is a word other than rec and end, the label any word
abbrev pub act_signs : ActTree → List Sign
act_signs a = plain a.peer ∷ mark_sign a.kind ∷ word_sign a.label ∷ open_paren ∷ (sort_signs a.sort ++ close_paren ∷ [])

-- commas stand between acts
abbrev pub acts_signs : List ActTree → List Sign
acts_signs acts = list_with_separators (comma ∷ []) act_signs acts

-- the token of a number
abbrev pub number_signs : ℕ → List Sign
number_signs n = number n ∷ []

-- and between numbers
abbrev pub numbers_signs : List ℕ → List Sign
numbers_signs numbers = list_with_separators (comma ∷ []) number_signs numbers

-- "pending" NUM ":" acts: the list with the number n
abbrev pub list_signs : ℕ → List ActTree → List Sign
list_signs n acts = plain (codes "pending") ∷ number n ∷ colon ∷ acts_signs acts

-- lists, the first of which has the number n
abbrev pub lists_signs_from : ℕ → List (List ActTree) → List Sign
lists_signs_from n [] = []
lists_signs_from n (acts ∷ later) = list_signs n acts ++ lists_signs_from (suc n) later

-- the lists that stand before the nodes
abbrev pub lists_signs : (f : Format) → ListsTree f → List Sign
lists_signs One none = []
lists_signs Two lists = lists_signs_from 1 lists

-- the pending acts of a node: "[" acts "]", or "with" NUM "above"
abbrev pub pending_signs : (f : Format) → PendingTree f → List Sign
pending_signs One acts = open_bracket ∷ (acts_signs acts ++ close_bracket ∷ [])
pending_signs Two n = plain (codes "with") ∷ number n ∷ plain (codes "above") ∷ []

-- after the pending acts of a node: NUM "rank" NUM "next" "[" numbers "]"
abbrev pub rest_signs : {f : Format} → NodeTree f → List Sign
rest_signs t = number t.above ∷ plain (codes "rank") ∷ number t.rank ∷ plain (codes "next") ∷ open_bracket ∷ (numbers_signs t.next ++ close_bracket ∷ [])

-- NUM ":" NUM, the pending acts, and what stands after them: the node with the number n
abbrev pub node_signs : (f : Format) → ℕ → NodeTree f → List Sign
node_signs f n t = number n ∷ colon ∷ number t.state ∷ (pending_signs f t.pending ++ rest_signs t)

-- nodes, the first of which has the number n
abbrev pub nodes_signs : (f : Format) → ℕ → List (NodeTree f) → List Sign
nodes_signs f n [] = []
nodes_signs f n (t ∷ ts) = node_signs f n t ++ nodes_signs f (suc n) ts

-- nothing, or "format" 2
abbrev pub format_signs : Format → List Sign
format_signs One = []
format_signs Two = plain (codes "format") ∷ number 2 ∷ []

-- "derivation" ROLE, the format, "bound" NUM "{"
abbrev pub head_signs : List ℕ → Format → ℕ → List Sign
head_signs role f bound = plain (codes "derivation") ∷ plain role ∷ (format_signs f ++ plain (codes "bound") ∷ number bound ∷ open_brace ∷ [])

-- the head, the lists, the nodes and "}"
abbrev pub derivation_signs : DerivationTree → List Sign
derivation_signs t = head_signs t.role t.format t.bound ++ (lists_signs t.format t.lists ++ (nodes_signs t.format 0 t.nodes ++ close_brace ∷ []))
