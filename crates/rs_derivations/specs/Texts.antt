-- Public: the text of a derivation tree, with the spacing of canonical texts: a line for the role and the bound, a line a
-- list where there are any, a line a node, and a line for the brace.
use Rattle.std.specs.Prelude.{ℕ, suc, List, [], ◌∷◌, ◌++◌, codes}
use Rattle.std.specs.Fmt.{decimal}
use Rattle.rs_prefix.specs.declared.earliest.ActKind.{ActKind}
use Rattle.rs_prefix.specs.declared.earliest.ActKind.TheVariants as act
use Rattle.rs_text.specs.Shown.{shown_text}
use Rattle.rs_derivations.specs.declared.formats.Format.{Format}
use Rattle.rs_derivations.specs.declared.formats.Format.TheVariants.{One, Two}
use Rattle.rs_derivations.specs.Lists.{list_with_separators}
use Rattle.rs_derivations.specs.Trees.{ActTree, ListsTree, PendingTree, NodeTree, DerivationTree}

-- ! sends, ? receives
abbrev pub mark_text : ActKind → List ℕ
mark_text act.Send = codes "!"
mark_text act.Receive = codes "?"

-- `peer!label(sort)`
abbrev pub act_text : ActTree → List ℕ
act_text a = a.peer ++ (mark_text a.kind ++ (a.label ++ (codes "(" ++ (shown_text a.sort ++ codes ")"))))

-- a comma and a space stand between acts
abbrev pub acts_text : List ActTree → List ℕ
acts_text acts = list_with_separators (codes ", ") act_text acts

-- and between numbers
abbrev pub numbers_text : List ℕ → List ℕ
numbers_text numbers = list_with_separators (codes ", ") decimal numbers

-- `pending N: acts`, the line of the list with the number n
abbrev pub list_text : ℕ → List ActTree → List ℕ
list_text n acts = codes "pending " ++ (decimal n ++ (codes ": " ++ (acts_text acts ++ codes "\n")))

-- the lines of lists, the first of which has the number n
abbrev pub lists_text_from : ℕ → List (List ActTree) → List ℕ
lists_text_from n [] = []
lists_text_from n (acts ∷ later) = list_text n acts ++ lists_text_from (suc n) later

-- the lines of the lists that stand before the nodes
abbrev pub lists_text : (f : Format) → ListsTree f → List ℕ
lists_text One none = []
lists_text Two lists = lists_text_from 1 lists

-- `[acts]`, or `with P above`
abbrev pub pending_text : (f : Format) → PendingTree f → List ℕ
pending_text One acts = codes "[" ++ (acts_text acts ++ codes "]")
pending_text Two n = codes "with " ++ (decimal n ++ codes " above")

-- what stands after the pending acts of a node
abbrev pub rest_text : {f : Format} → NodeTree f → List ℕ
rest_text t = decimal t.above ++ (codes " rank " ++ (decimal t.rank ++ (codes " next [" ++ (numbers_text t.next ++ codes "]\n"))))

-- `N: S [acts] T rank R next [numbers]` or `N: S with P above T rank R next [numbers]`, the line of the node with the number n
abbrev pub node_text : (f : Format) → ℕ → NodeTree f → List ℕ
node_text f n t = decimal n ++ (codes ": " ++ (decimal t.state ++ (codes " " ++ (pending_text f t.pending ++ (codes " " ++ rest_text t)))))

-- the lines of nodes, the first of which has the number n
abbrev pub nodes_text : (f : Format) → ℕ → List (NodeTree f) → List ℕ
nodes_text f n [] = []
nodes_text f n (t ∷ ts) = node_text f n t ++ nodes_text f (suc n) ts

-- nothing, or ` format 2`
abbrev pub format_text : Format → List ℕ
format_text One = []
format_text Two = codes " format 2"

-- ` bound NUM {`, the end of the first line
abbrev pub bound_text : ℕ → List ℕ
bound_text bound = codes " bound " ++ (decimal bound ++ codes " {\n")

-- the first line: `derivation ROLE bound NUM {` or `derivation ROLE format 2 bound NUM {`
abbrev pub first_line_text : List ℕ → Format → ℕ → List ℕ
first_line_text role f bound = codes "derivation " ++ (role ++ (format_text f ++ bound_text bound))

-- the text of a derivation tree
abbrev pub derivation_text : DerivationTree → List ℕ
derivation_text t = first_line_text t.role t.format t.bound ++ (lists_text t.format t.lists ++ (nodes_text t.format 0 t.nodes ++ codes "}\n"))
