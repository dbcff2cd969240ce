-- The canonical text of a derivation is written for its tree, and spells the derivation.
use Rattle.std.proofs.Common.{◌≡◌, ℕ, suc, ◌≤◌, List, [], ◌∷◌, ◌++◌, codes, true, false, Option, Some, None, refl, sym, ap, ◌∙◌, subst, append_assoc, append-nil, arith}
use Rattle.std.specs.Fmt.{decimal, digits}
use Rattle.rs_model.specs.declared.values.Sort.{Sort}
use Rattle.rs_prefix.specs.declared.earliest.ActKind.{ActKind}
use Rattle.rs_prefix.specs.declared.earliest.ActKind.TheVariants as act
use Rattle.rs_text.specs.Arms.{sort_text, sort_signs}
use Rattle.rs_text.specs.Bytes.{is_word_byte, is_digit, begins}
use Rattle.rs_text.specs.Shown.{shown_text}
use Rattle.rs_text.specs.Signs.{Sign, plain, number, word_sign, bang, question, colon, comma, open_brace, close_brace, open_paren, close_paren, open_bracket, close_bracket}
use Rattle.rs_text.specs.Words.{is_word, is_role_word}
use Rattle.rs_text.specs.Writing.{IsWritten}
use Rattle.rs_text.proofs.Arms.{sort_is_word}
use Rattle.rs_text.proofs.Written.{nothing_written, joined, before_blank, before_mark, before_word, before_role, before_number}
use Rattle.rs_derivations.specs.Lists.{with_separators}
use Rattle.rs_derivations.specs.Texts.{mark_text, act_text, acts_text, numbers_text, list_text, lists_text_from, lists_text, pending_text, rest_text, node_text, nodes_text, format_text, derivation_text}
use Rattle.rs_derivations.specs.Trees.{ActTree, ListsTree, PendingTree, NodeTree, DerivationTree, mark_sign, act_signs, acts_signs, number_signs, numbers_signs}
use Rattle.rs_derivations.specs.Trees.{list_signs, lists_signs_from, lists_signs, pending_signs, rest_signs, node_signs, nodes_signs, format_signs, head_signs, derivation_signs}
use Rattle.rs_derivations.specs.declared.formats.Format.{Format}
use Rattle.rs_derivations.specs.declared.formats.Format.TheVariants.{One, Two}

-- ---- trees whose names and numbers can be written

abbrev pub IsActWritable : ActTree → Type 0
IsActWritable a = (is_role_word a.peer ≡ true) × (is_word a.label ≡ true)

abbrev pub AreActsWritable : List ActTree → Type 0
AreActsWritable [] = Unit {0}
AreActsWritable (a ∷ acts) = IsActWritable a × AreActsWritable acts

abbrev pub AreNumbersWritable : List ℕ → Type 0
AreNumbersWritable [] = Unit {0}
AreNumbersWritable (n ∷ ns) = (n ≤ 4294967295) × AreNumbersWritable ns

-- acts that stand in a node, or the number of a list
abbrev pub IsPendingWritable : (f : Format) → PendingTree f → Type 0
IsPendingWritable One acts = AreActsWritable acts
IsPendingWritable Two n = n ≤ 4294967295

abbrev pub AreListsWritable : ℕ → List (List ActTree) → Type 0
AreListsWritable n [] = Unit {0}
AreListsWritable n (acts ∷ lists) = (n ≤ 4294967295) × AreActsWritable acts × AreListsWritable (suc n) lists

abbrev pub AreWritable : (f : Format) → ListsTree f → Type 0
AreWritable One none = Unit {0}
AreWritable Two lists = AreListsWritable 1 lists

pub record IsNodeWritable (f : Format) (t : NodeTree f) : Type 0 where
  pub state : t.state ≤ 4294967295
  pub pending : IsPendingWritable f t.pending
  pub above : t.above ≤ 4294967295
  pub rank : t.rank ≤ 4294967295
  pub next : AreNumbersWritable t.next

abbrev pub AreNodesWritable : (f : Format) → ℕ → List (NodeTree f) → Type 0
AreNodesWritable f n [] = Unit {0}
AreNodesWritable f n (t ∷ ts) = (n ≤ 4294967295) × IsNodeWritable f t × AreNodesWritable f (suc n) ts

-- ---- acts

closing : (behind : List ℕ) → IsWritten (close_paren ∷ []) (codes ")") behind
closing behind = before_mark close_paren [] (codes ")") [] behind refl refl (nothing_written behind)

sort_written : (q : Option Sort) (behind : List ℕ) → IsWritten (sort_signs q ++ close_paren ∷ []) (shown_text q ++ codes ")") behind
sort_written None behind = closing behind
sort_written (Some s) behind = before_role (sort_text s) (close_paren ∷ []) (codes ")") behind (sort_is_word s) refl (closing behind)

mark_written : (k : ActKind) (signs : List Sign) (text behind : List ℕ) → IsWritten signs text behind → IsWritten (mark_sign k ∷ signs) (mark_text k ++ text) behind
mark_written act.Send signs text behind w = before_mark bang signs (codes "!") text behind refl refl w
mark_written act.Receive signs text behind w = before_mark question signs (codes "?") text behind refl refl w

ends_word : (k : ActKind) (text behind : List ℕ) → begins is_word_byte ((mark_text k ++ text) ++ behind) ≡ false
ends_word act.Send text behind = refl
ends_word act.Receive text behind = refl

act_written : (a : ActTree) (behind : List ℕ) → IsActWritable a → IsWritten (act_signs a) (act_text a) behind
act_written a behind h =
    let tail : IsWritten (open_paren ∷ (sort_signs a.sort ++ close_paren ∷ [])) (codes "(" ++ (shown_text a.sort ++ codes ")")) behind
    = before_mark open_paren (sort_signs a.sort ++ close_paren ∷ []) (codes "(") (shown_text a.sort ++ codes ")") behind refl refl (sort_written a.sort behind) in
    before_role a.peer (mark_sign a.kind ∷ word_sign a.label ∷ open_paren ∷ (sort_signs a.sort ++ close_paren ∷ []))
    (mark_text a.kind ++ (a.label ++ (codes "(" ++ (shown_text a.sort ++ codes ")")))) behind h.0 (ends_word a.kind (a.label ++ (codes "(" ++ (shown_text a.sort ++ codes ")"))) behind)
    (mark_written a.kind (word_sign a.label ∷ open_paren ∷ (sort_signs a.sort ++ close_paren ∷ [])) (a.label ++ (codes "(" ++ (shown_text a.sort ++ codes ")"))) behind
    (before_word a.label (open_paren ∷ (sort_signs a.sort ++ close_paren ∷ [])) (codes "(" ++ (shown_text a.sort ++ codes ")")) behind h.1 refl tail))

later_written : (acts : List ActTree) (behind : List ℕ) → AreActsWritable acts → IsWritten (with_separators (comma ∷ []) act_signs acts) (with_separators (codes ", ") act_text acts) behind
later_written [] behind h = nothing_written behind
later_written (a ∷ acts) behind h =
    before_mark comma (act_signs a ++ with_separators (comma ∷ []) act_signs acts) (codes ",") (codes " " ++ (act_text a ++ with_separators (codes ", ") act_text acts)) behind refl refl
    (before_blank 32 (act_signs a ++ with_separators (comma ∷ []) act_signs acts) (act_text a ++ with_separators (codes ", ") act_text acts) behind refl
    (joined (act_signs a) (with_separators (comma ∷ []) act_signs acts) (act_text a) (with_separators (codes ", ") act_text acts) behind
    (act_written a (with_separators (codes ", ") act_text acts ++ behind) h.0) (later_written acts behind h.1)))

acts_written : (acts : List ActTree) (behind : List ℕ) → AreActsWritable acts → IsWritten (acts_signs acts) (acts_text acts) behind
acts_written [] behind h = nothing_written behind
acts_written (a ∷ acts) behind h =
    joined (act_signs a) (with_separators (comma ∷ []) act_signs acts) (act_text a) (with_separators (codes ", ") act_text acts) behind
    (act_written a (with_separators (codes ", ") act_text acts ++ behind) h.0) (later_written acts behind h.1)

-- ---- numbers

-- after a number in a list no digit stands
no_digit : (ns : List ℕ) (behind : List ℕ) → begins is_digit behind ≡ false → begins is_digit (with_separators (codes ", ") decimal ns ++ behind) ≡ false
no_digit [] behind h = h
no_digit (n ∷ ns) behind h = refl

more_written : (ns : List ℕ) (behind : List ℕ) → begins is_digit behind ≡ false → AreNumbersWritable ns
    → IsWritten (with_separators (comma ∷ []) number_signs ns) (with_separators (codes ", ") decimal ns) behind
more_written [] behind e h = nothing_written behind
more_written (n ∷ ns) behind e h =
    before_mark comma (number n ∷ with_separators (comma ∷ []) number_signs ns) (codes ",") (codes " " ++ (decimal n ++ with_separators (codes ", ") decimal ns)) behind refl refl
    (before_blank 32 (number n ∷ with_separators (comma ∷ []) number_signs ns) (decimal n ++ with_separators (codes ", ") decimal ns) behind refl
    (before_number n (with_separators (comma ∷ []) number_signs ns) (with_separators (codes ", ") decimal ns) behind h.0 (no_digit ns behind e) (more_written ns behind e h.1)))

numbers_written : (ns : List ℕ) (behind : List ℕ) → begins is_digit behind ≡ false → AreNumbersWritable ns → IsWritten (numbers_signs ns) (numbers_text ns) behind
numbers_written [] behind e h = nothing_written behind
numbers_written (n ∷ ns) behind e h =
    before_number n (with_separators (comma ∷ []) number_signs ns) (with_separators (codes ", ") decimal ns) behind h.0 (no_digit ns behind e) (more_written ns behind e h.1)

-- ---- lists

list_written : (n : ℕ) (acts : List ActTree) (behind : List ℕ) → n ≤ 4294967295 → AreActsWritable acts → IsWritten (list_signs n acts) (list_text n acts) behind
list_written n acts behind small h =
    let line : IsWritten [] (codes "\n") behind = before_blank 10 [] [] behind refl (nothing_written behind) in
    let tail : IsWritten (acts_signs acts) (acts_text acts ++ codes "\n") behind
    = subst (λ (z : List Sign). IsWritten z (acts_text acts ++ codes "\n") behind) (append-nil (acts_signs acts))
    (joined (acts_signs acts) [] (acts_text acts) (codes "\n") behind (acts_written acts (codes "\n" ++ behind) h) line) in
    let s4 : List Sign = acts_signs acts in
    let t4 : List ℕ = acts_text acts ++ codes "\n" in
    before_role (codes "pending") (number n ∷ colon ∷ s4) (codes " " ++ (decimal n ++ (codes ": " ++ t4))) behind refl refl
    (before_blank 32 (number n ∷ colon ∷ s4) (decimal n ++ (codes ": " ++ t4)) behind refl
    (before_number n (colon ∷ s4) (codes ": " ++ t4) behind small refl
    (before_mark colon s4 (codes ":") (codes " " ++ t4) behind refl refl
    (before_blank 32 s4 t4 behind refl tail))))

lists_written_from : (n : ℕ) (lists : List (List ActTree)) (behind : List ℕ) → AreListsWritable n lists → IsWritten (lists_signs_from n lists) (lists_text_from n lists) behind
lists_written_from n [] behind h = nothing_written behind
lists_written_from n (acts ∷ lists) behind h =
    joined (list_signs n acts) (lists_signs_from (suc n) lists) (list_text n acts) (lists_text_from (suc n) lists) behind
    (list_written n acts (lists_text_from (suc n) lists ++ behind) h.0 h.1) (lists_written_from (suc n) lists behind h.2)

lists_written : (f : Format) (lists : ListsTree f) (behind : List ℕ) → AreWritable f lists → IsWritten (lists_signs f lists) (lists_text f lists) behind
lists_written One none behind h = nothing_written behind
lists_written Two lists behind h = lists_written_from 1 lists behind h

-- ---- nodes

last_written : (behind : List ℕ) → IsWritten (close_bracket ∷ []) (codes "]\n") behind
last_written behind = before_mark close_bracket [] (codes "]") (codes "\n") behind refl refl (before_blank 10 [] [] behind refl (nothing_written behind))

rest_written : (f : Format) (t : NodeTree f) (behind : List ℕ) → IsNodeWritable f t → IsWritten (rest_signs t) (rest_text t) behind
rest_written f t behind h =
    let nexts : IsWritten (numbers_signs t.next ++ close_bracket ∷ []) (numbers_text t.next ++ codes "]\n") behind
    = joined (numbers_signs t.next) (close_bracket ∷ []) (numbers_text t.next) (codes "]\n") behind (numbers_written t.next (codes "]\n" ++ behind) refl h.next) (last_written behind) in
    let s5 : List Sign = numbers_signs t.next ++ close_bracket ∷ [] in
    let t5 : List ℕ = numbers_text t.next ++ codes "]\n" in
    before_number t.above (plain (codes "rank") ∷ number t.rank ∷ plain (codes "next") ∷ open_bracket ∷ s5) (codes " rank " ++ (decimal t.rank ++ (codes " next [" ++ t5))) behind h.above refl
    (before_blank 32 (plain (codes "rank") ∷ number t.rank ∷ plain (codes "next") ∷ open_bracket ∷ s5) (codes "rank " ++ (decimal t.rank ++ (codes " next [" ++ t5))) behind refl
    (before_role (codes "rank") (number t.rank ∷ plain (codes "next") ∷ open_bracket ∷ s5) (codes " " ++ (decimal t.rank ++ (codes " next [" ++ t5))) behind refl refl
    (before_blank 32 (number t.rank ∷ plain (codes "next") ∷ open_bracket ∷ s5) (decimal t.rank ++ (codes " next [" ++ t5)) behind refl
    (before_number t.rank (plain (codes "next") ∷ open_bracket ∷ s5) (codes " next [" ++ t5) behind h.rank refl
    (before_blank 32 (plain (codes "next") ∷ open_bracket ∷ s5) (codes "next [" ++ t5) behind refl
    (before_role (codes "next") (open_bracket ∷ s5) (codes " [" ++ t5) behind refl refl
    (before_blank 32 (open_bracket ∷ s5) (codes "[" ++ t5) behind refl
    (before_mark open_bracket s5 (codes "[") t5 behind refl refl nexts))))))))

pending_written : (f : Format) (p : PendingTree f) (behind : List ℕ) → begins is_word_byte behind ≡ false → IsPendingWritable f p → IsWritten (pending_signs f p) (pending_text f p) behind
pending_written One acts behind e h =
    before_mark open_bracket (acts_signs acts ++ close_bracket ∷ []) (codes "[") (acts_text acts ++ codes "]") behind refl refl
    (joined (acts_signs acts) (close_bracket ∷ []) (acts_text acts) (codes "]") behind (acts_written acts (codes "]" ++ behind) h)
    (before_mark close_bracket [] (codes "]") [] behind refl refl (nothing_written behind)))
pending_written Two n behind e h =
    before_role (codes "with") (number n ∷ plain (codes "above") ∷ []) (codes " " ++ (decimal n ++ codes " above")) behind refl refl
    (before_blank 32 (number n ∷ plain (codes "above") ∷ []) (decimal n ++ codes " above") behind refl
    (before_number n (plain (codes "above") ∷ []) (codes " above") behind h refl
    (before_blank 32 (plain (codes "above") ∷ []) (codes "above") behind refl
    (before_role (codes "above") [] [] behind refl e (nothing_written behind)))))

node_written : (f : Format) (n : ℕ) (t : NodeTree f) (behind : List ℕ) → n ≤ 4294967295 → IsNodeWritable f t → IsWritten (node_signs f n t) (node_text f n t) behind
node_written f n t behind small h =
    let s3 : List Sign = pending_signs f t.pending ++ rest_signs t in
    let t3 : List ℕ = pending_text f t.pending ++ (codes " " ++ rest_text t) in
    let rest : IsWritten (rest_signs t) (codes " " ++ rest_text t) behind = before_blank 32 (rest_signs t) (rest_text t) behind refl (rest_written f t behind h) in
    let pending : IsWritten s3 t3 behind
    = joined (pending_signs f t.pending) (rest_signs t) (pending_text f t.pending) (codes " " ++ rest_text t) behind (pending_written f t.pending ((codes " " ++ rest_text t) ++ behind) refl h.pending) rest in
    before_number n (colon ∷ number t.state ∷ s3) (codes ": " ++ (decimal t.state ++ (codes " " ++ t3))) behind small refl
    (before_mark colon (number t.state ∷ s3) (codes ":") (codes " " ++ (decimal t.state ++ (codes " " ++ t3))) behind refl refl
    (before_blank 32 (number t.state ∷ s3) (decimal t.state ++ (codes " " ++ t3)) behind refl
    (before_number t.state s3 (codes " " ++ t3) behind h.state refl
    (before_blank 32 s3 t3 behind refl pending))))

nodes_written : (f : Format) (n : ℕ) (ts : List (NodeTree f)) (behind : List ℕ) → AreNodesWritable f n ts → IsWritten (nodes_signs f n ts) (nodes_text f n ts) behind
nodes_written f n [] behind h = nothing_written behind
nodes_written f n (t ∷ ts) behind h =
    joined (node_signs f n t) (nodes_signs f (suc n) ts) (node_text f n t) (nodes_text f (suc n) ts) behind (node_written f n t (nodes_text f (suc n) ts ++ behind) h.0 h.1)
    (nodes_written f (suc n) ts behind h.2)

-- ---- the whole

pub record IsTreeWritable (t : DerivationTree) : Type 0 where
  pub role : is_role_word t.role ≡ true
  pub bound : t.bound ≤ 4294967295
  pub lists : AreWritable t.format t.lists
  pub nodes : AreNodesWritable t.format 0 t.nodes

texts : (role format bound rest : List ℕ)
    → (codes "derivation " ++ (role ++ (format ++ (codes " bound " ++ (bound ++ codes " {\n"))))) ++ rest
    ≡ codes "derivation " ++ (role ++ (format ++ (codes " bound " ++ (bound ++ (codes " {\n" ++ rest)))))
texts role format bound rest =
    ap (λ z. codes "derivation " ++ z) (append_assoc role (format ++ (codes " bound " ++ (bound ++ codes " {\n"))) rest
    ∙ ap (λ z. role ++ z) (append_assoc format (codes " bound " ++ (bound ++ codes " {\n")) rest ∙ ap (λ z. format ++ (codes " bound " ++ z)) (append_assoc bound (codes " {\n") rest)))

signs_joined : (f : Format) (role : List ℕ) (bound : ℕ) (rest : List Sign)
    → head_signs role f bound ++ rest ≡ plain (codes "derivation") ∷ plain role ∷ (format_signs f ++ plain (codes "bound") ∷ number bound ∷ open_brace ∷ rest)
signs_joined One role bound rest = refl
signs_joined Two role bound rest = refl

bound_written : (bound : ℕ) (signs : List Sign) (text behind : List ℕ) → bound ≤ 4294967295 → IsWritten signs text behind
    → IsWritten (plain (codes "bound") ∷ number bound ∷ open_brace ∷ signs) (codes " bound " ++ (decimal bound ++ (codes " {\n" ++ text))) behind
bound_written bound signs text behind small w =
    before_blank 32 (plain (codes "bound") ∷ number bound ∷ open_brace ∷ signs) (codes "bound " ++ (decimal bound ++ (codes " {\n" ++ text))) behind refl
    (before_role (codes "bound") (number bound ∷ open_brace ∷ signs) (codes " " ++ (decimal bound ++ (codes " {\n" ++ text))) behind refl refl
    (before_blank 32 (number bound ∷ open_brace ∷ signs) (decimal bound ++ (codes " {\n" ++ text)) behind refl
    (before_number bound (open_brace ∷ signs) (codes " {\n" ++ text) behind small refl
    (before_blank 32 (open_brace ∷ signs) (codes "{\n" ++ text) behind refl
    (before_mark open_brace signs (codes "{") (codes "\n" ++ text) behind refl refl
    (before_blank 10 signs text behind refl w))))))

two_is : decimal 2 ≡ codes "2"
unfolding digits
two_is = refl

format_written : (f : Format) (signs : List Sign) (text behind : List ℕ) → IsWritten signs (codes " " ++ text) behind → IsWritten (format_signs f ++ signs) (format_text f ++ (codes " " ++ text)) behind
format_written One signs text behind w = w
format_written Two signs text behind w =
    before_blank 32 (plain (codes "format") ∷ number 2 ∷ signs) (codes "format 2 " ++ text) behind refl
    (before_role (codes "format") (number 2 ∷ signs) (codes " 2 " ++ text) behind refl refl
    (before_blank 32 (number 2 ∷ signs) (codes "2 " ++ text) behind refl
    (subst (λ (z : List ℕ). IsWritten (number 2 ∷ signs) (z ++ (codes " " ++ text)) behind) two_is
    (before_number 2 signs (codes " " ++ text) behind (omega arith) refl w))))

behind_role : (f : Format) (text behind : List ℕ) → begins is_word_byte ((format_text f ++ (codes " bound " ++ text)) ++ behind) ≡ false
behind_role One text behind = refl
behind_role Two text behind = refl

pub written : (t : DerivationTree) (behind : List ℕ) → IsTreeWritable t → IsWritten (derivation_signs t) (derivation_text t) behind
written t behind h =
    let last : IsWritten (close_brace ∷ []) (codes "}\n") behind = before_mark close_brace [] (codes "}") (codes "\n") behind refl refl (before_blank 10 [] [] behind refl (nothing_written behind)) in
    let s7 : List Sign = nodes_signs t.format 0 t.nodes ++ close_brace ∷ [] in
    let t7 : List ℕ = nodes_text t.format 0 t.nodes ++ codes "}\n" in
    let nodes : IsWritten s7 t7 behind
    = joined (nodes_signs t.format 0 t.nodes) (close_brace ∷ []) (nodes_text t.format 0 t.nodes) (codes "}\n") behind (nodes_written t.format 0 t.nodes (codes "}\n" ++ behind) h.nodes) last in
    let s6 : List Sign = lists_signs t.format t.lists ++ s7 in
    let t6 : List ℕ = lists_text t.format t.lists ++ t7 in
    let all : IsWritten s6 t6 behind = joined (lists_signs t.format t.lists) s7 (lists_text t.format t.lists) t7 behind (lists_written t.format t.lists (t7 ++ behind) h.lists) nodes in
    let shape : derivation_text t ≡ codes "derivation " ++ (t.role ++ (format_text t.format ++ (codes " bound " ++ (decimal t.bound ++ (codes " {\n" ++ t6))))) = texts t.role (format_text t.format) (decimal t.bound) t6 in
    let s2 : List Sign = format_signs t.format ++ plain (codes "bound") ∷ number t.bound ∷ open_brace ∷ s6 in
    let t2 : List ℕ = format_text t.format ++ (codes " bound " ++ (decimal t.bound ++ (codes " {\n" ++ t6))) in
    subst (λ (z : List ℕ). IsWritten (derivation_signs t) z behind) (sym shape)
    (subst (λ (z : List Sign). IsWritten z (codes "derivation " ++ (t.role ++ t2)) behind) (sym (signs_joined t.format t.role t.bound s6))
    (before_role (codes "derivation") (plain t.role ∷ s2) (codes " " ++ (t.role ++ t2)) behind refl refl
    (before_blank 32 (plain t.role ∷ s2) (t.role ++ t2) behind refl
    (before_role t.role s2 t2 behind h.role (behind_role t.format (decimal t.bound ++ (codes " {\n" ++ t6)) behind)
    (format_written t.format (plain (codes "bound") ∷ number t.bound ∷ open_brace ∷ s6) (codes "bound " ++ (decimal t.bound ++ (codes " {\n" ++ t6))) behind
    (bound_written t.bound s6 t6 behind h.bound all))))))
