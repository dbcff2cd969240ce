-- A document that a text spells can be read again from its canonical text.
use Rattle.std.proofs.Common.{◌≡◌, ℕ, suc, ◌≤◌, List, [], ◌∷◌, ◌++◌, length, map, codes, Bool, true, false, ◌&&◌, nat_lt, if◌then◌else◌, Option, Result, inl, inr, refl, sym, ap, ◌∙◌, subst, arith}
use Rattle.std.proofs.lemmas.Bool.{ltb-true, lt-ltb}
use Rattle.std.proofs.lemmas.List.{map-append}
use Rattle.std.proofs.lemmas.List.Elements.{All-cons, All-nil}
use Rattle.std.proofs.lemmas.List.Folds.{list_all-append}
use Rattle.std.proofs.lemmas.Slice.Eq.{bytes_eq-Decides}
use Rattle.std.specs.List.{All, flat_map, list_all}
use Rattle.std.specs.Str.{bytes_eq}
use Rattle.rs_derivations.specs.Derivations.{acts_of, labels_of_acts, node_of_tree, written_lists}
use Rattle.rs_derivations.specs.Lists.{with_separators}
use Rattle.rs_derivations.specs.Numbers.{AreSmall, HasSmallNumbers}
use Rattle.rs_derivations.specs.Spells.{SpellsDerivation}
use Rattle.rs_derivations.specs.Trees.{ActTree, ListsTree, NodeTree, DerivationTree, act_signs, acts_signs, derivation_signs, head_signs, list_signs, lists_signs, lists_signs_from, node_signs, nodes_signs}
use Rattle.rs_derivations.specs.Trees.{number_signs, numbers_signs, pending_signs, rest_signs}
use Rattle.rs_derivations.specs.declared.formats.Format.{Format}
use Rattle.rs_derivations.specs.declared.formats.Format.TheVariants.{One, Two}
use Rattle.rs_derive.specs.Data.{Derivation_data}
use Rattle.rs_documents.specs.Again.{CanBeReadAgain, StandInPlaces}
use Rattle.rs_documents.specs.Data.{Document_data}
use Rattle.rs_documents.specs.Documents.{SpellsDocument}
use Rattle.rs_documents.specs.Parts.{PartKind, PartsRead, GoesOn, Stops, Repeats, Fails, Adds, parts_with, machine_parts, derivation_parts, no_parts}
use Rattle.rs_documents.specs.Ready.{StandInPlace}
use Rattle.rs_documents.proofs.CanShow.{can_show, kept}
use Rattle.rs_documents.proofs.DerivationsAgain.{all_acts}
use Rattle.rs_documents.proofs.OneDocument.{front_few}
use Rattle.rs_documents.proofs.PartKinds.{machine_line, of_derivations, of_machines}
use Rattle.rs_documents.proofs.Parts.{good, keeps, keeps_few, none_there, row_of, size_of_none}
use Rattle.rs_bodies.proofs.WrittenNames.{sound_parts}
use Rattle.rs_machines.specs.Spells.{SpellsMachine}
use Rattle.rs_model.specs.Data.{Names_data, Machine_data}
use Rattle.rs_model.specs.declared.limits.TheConstants.{MOST_NUMBER}
use Rattle.rs_tables.specs.Machines.{labels_of_row, labels_of_rows}
use Rattle.rs_tables.specs.Machines as of_tables
use Rattle.rs_tables.specs.Spells.{SpellsTable}
use Rattle.rs_tables.specs.Trees.{ArmTree, RowTree, TableTree}
use Rattle.rs_tables.specs.Trees as tables
use Rattle.rs_text.proofs.Basics.{both, two_true}
use Rattle.rs_text.proofs.Gaps.{true_or_false}
use Rattle.rs_text.proofs.Naming.{decides_sound, grown_all, grown_differ}
use Rattle.rs_text.proofs.Nexts.{next_is_next, plain_law, are_lexed}
use Rattle.rs_text.proofs.Written.{role_is_word}
use Rattle.rs_text.specs.Arms.{arm_signs}
use Rattle.rs_text.specs.Lexemes.{Lexeme, is_last, signs_of}
use Rattle.rs_text.specs.Lexing.{Lexed}
use Rattle.rs_text.specs.Names.{names_with, differ}
use Rattle.rs_text.specs.Signs.{Sign, plain, word_sign, rec_word, end_word, dot, comma, colon}
use Rattle.rs_text.specs.Signs as signs
use Rattle.rs_text.specs.Sound.{IsSound}
use Rattle.rs_text.specs.Tokens.{IsNext, IsToken}
use Rattle.rs_text.specs.Words.{is_role_word, is_word}
use Rattle.rs_text.specs.declared.faults.TextFault.{TextFault}
use Rattle.rs_bodies.specs.declared.dialects.Dialect.TheVariants.{Acts}
use Rattle.rs_bodies.specs.Graph.{labels_of, labels_of_arms}
use Rattle.rs_bodies.specs.Trees.{Body, ends, again, binds, acts, offers, Branches, one, more, body_signs, branch_signs}
use Rattle.rs_bodies.specs.Dialects.{with_mark}
use Rattle.rs_bodies.proofs.GraphLaws.{complete, is_sound}
use Rattle.rs_global.specs.Graph.{no_names}
use Rattle.rs_global.specs.Kinds.{protocols}
use Rattle.rs_global.proofs.Places.{is_kind}

-- ---- tokens

-- a plain word is one, and a number isn't too large
abbrev is_good : Sign → Bool
is_good (plain w) = is_role_word w
is_good (signs.number n) = nat_lt n 4294967296
is_good _ = true

token_is_good : (bytes : List ℕ) (at : ℕ) (l : Lexeme) (s : Sign) → IsNext bytes at l → l.sign ≡ s → is_good s ≡ true
token_is_good bytes at l (plain w) x e = plain_law bytes at l w x e
token_is_good bytes at l (signs.number n) x e =
    let t : IsToken (signs.number n) x.text x.behind = subst (λ (z : Sign). IsToken z x.text x.behind) e x.token in
    let small = t.1 in
    let is = t.2 in
    lt-ltb n 4294967296 (omega (arith, small, is))
token_is_good bytes at l _ x e = refl

none_left : {A : Type 0} (xs ys : List A) (y : A) → (xs ++ y ∷ ys) ≡ [] → ⊥
none_left [] ys y e = cc e
none_left (x ∷ xs) ys y e = cc e

tokens_are_good : (bytes : List ℕ) (ls : List Lexeme) (at : ℕ) (behind : Lexeme) (others : List Lexeme) → Lexed bytes at (ls ++ behind ∷ others) → list_all is_good (signs_of ls) ≡ true
tokens_are_good bytes [] at behind others h = refl
tokens_are_good bytes (x ∷ ls) at behind others h =
    let next : IsNext bytes at x = subst (IsNext bytes at) (sym h.0) (next_is_next bytes at) in
    let own : is_good x.sign ≡ true = token_is_good bytes at x x.sign next refl in
    elim (true_or_false (is_last x.sign)) [
      | inl e ↦ absurd (none_left ls others behind (h.1 e))
      | inr e ↦ two_true (is_good x.sign) (list_all is_good (signs_of ls)) own (tokens_are_good bytes ls x.until behind others (h.2 e))
    ]

-- ---- what follows for lists of signs

record AreGood (ss : List Sign) : Type 0 where
  all : list_all is_good ss ≡ true

head_good : (s : Sign) (ss : List Sign) → AreGood (s ∷ ss) → is_good s ≡ true
head_good s ss h = (both (is_good s) (list_all is_good ss) h.all).0

tail_good : (s : Sign) (ss : List Sign) → AreGood (s ∷ ss) → AreGood ss
tail_good s ss h = record { all = (both (is_good s) (list_all is_good ss) h.all).1 }

front_good : (xs ys : List Sign) → AreGood (xs ++ ys) → AreGood xs
front_good xs ys h = record { all = (both (list_all is_good xs) (list_all is_good ys) (sym (list_all-append is_good xs ys) ∙ h.all)).0 }

back_good : (xs ys : List Sign) → AreGood (xs ++ ys) → AreGood ys
back_good xs ys h = record { all = (both (list_all is_good xs) (list_all is_good ys) (sym (list_all-append is_good xs ys) ∙ h.all)).1 }

word_by : (l : List ℕ) (a b : Bool) → bytes_eq l (codes "rec") ≡ a → bytes_eq l (codes "end") ≡ b → is_good (if a then rec_word else if b then end_word else plain l) ≡ true → is_word l ≡ true
word_by l true b e f h = subst (λ (z : List ℕ). is_word z ≡ true) (sym ((bytes_eq-Decides l (codes "rec")).0 e)) refl
word_by l false true e f h = subst (λ (z : List ℕ). is_word z ≡ true) (sym ((bytes_eq-Decides l (codes "end")).0 f)) refl
word_by l false false e f h = role_is_word l h

-- a label is a word
label_is_word : (l : List ℕ) → is_good (word_sign l) ≡ true → is_word l ≡ true
label_is_word l h = word_by l (bytes_eq l (codes "rec")) (bytes_eq l (codes "end")) refl refl h

small : (n : ℕ) → is_good (signs.number n) ≡ true → n ≤ MOST_NUMBER
small n h = let lt = ltb-true n 4294967296 h in omega (arith, lt)

abbrev AreWords : List (List ℕ) → Type 0
AreWords xs = list_all is_word xs ≡ true

words_both : (xs ys : List (List ℕ)) → AreWords xs → AreWords ys → AreWords (xs ++ ys)
words_both xs ys h k = list_all-append is_word xs ys ∙ two_true (list_all is_word xs) (list_all is_word ys) h k

-- ---- lines of machines

mutual
  body_words : (b : Body Acts) → AreGood (body_signs Acts b) → AreWords (labels_of Acts b)
  body_words ends h = refl
  body_words (again x) h = refl
  body_words (binds x b) h = body_words b (tail_good dot (body_signs Acts b) (tail_good (plain x) (dot ∷ body_signs Acts b) (tail_good rec_word (plain x ∷ dot ∷ body_signs Acts b) h)))
  body_words (acts p (with_mark m) l sort b) h =
      let rest : AreGood (arm_signs l sort ++ body_signs Acts b) = tail_good _ _ (tail_good (plain p) _ h) in
      two_true (is_word l) (list_all is_word (labels_of Acts b)) (label_is_word l (head_good (word_sign l) _ (front_good (arm_signs l sort) (body_signs Acts b) rest)))
      (body_words b (back_good (arm_signs l sort) (body_signs Acts b) rest))
  body_words (offers p (with_mark m) arms) h =
      let rest : AreGood (branch_signs Acts arms ++ signs.close_brace ∷ []) = tail_good _ _ (tail_good _ _ (tail_good (plain p) _ h)) in
      arms_words arms (front_good (branch_signs Acts arms) (signs.close_brace ∷ []) rest)

  arms_words : (arms : Branches Acts) → AreGood (branch_signs Acts arms) → AreWords (labels_of_arms Acts arms)
  arms_words (one l sort b) h =
      two_true (is_word l) (list_all is_word (labels_of Acts b)) (label_is_word l (head_good (word_sign l) _ (front_good (arm_signs l sort) (body_signs Acts b) h)))
      (body_words b (back_good (arm_signs l sort) (body_signs Acts b) h))
  arms_words (more l sort b arms) h =
      let rest : AreGood (body_signs Acts b ++ comma ∷ branch_signs Acts arms) = back_good (arm_signs l sort) (body_signs Acts b ++ comma ∷ branch_signs Acts arms) h in
      two_true (is_word l) (list_all is_word (labels_of Acts b ++ labels_of_arms Acts arms))
      (label_is_word l (head_good (word_sign l) _ (front_good (arm_signs l sort) (body_signs Acts b ++ comma ∷ branch_signs Acts arms) h)))
      (words_both (labels_of Acts b) (labels_of_arms Acts arms) (body_words b (front_good (body_signs Acts b) (comma ∷ branch_signs Acts arms) rest))
      (arms_words arms (tail_good comma (branch_signs Acts arms) (back_good (body_signs Acts b) (comma ∷ branch_signs Acts arms) rest))))

-- sound names stay so with further labels that are words
sound_grown : (old : Names_data) (labels : List (List ℕ)) → IsSound old → AreWords labels → IsSound (record { roles = old.roles; labels = names_with old.labels labels })
sound_grown old labels sound words =
    let s = sound_parts old sound in
    (decides_sound (record { roles = old.roles; labels = names_with old.labels labels })).0
    (two_true (differ old.roles && list_all is_role_word old.roles) (differ (names_with old.labels labels) && list_all is_word (names_with old.labels labels))
    (two_true (differ old.roles) (list_all is_role_word old.roles) s.roles_differ s.roles_are_words)
    (two_true (differ (names_with old.labels labels)) (list_all is_word (names_with old.labels labels)) (grown_differ labels old.labels s.labels_differ)
    (grown_all is_word labels old.labels s.labels_are_words words)))

none_sound : IsSound no_names
none_sound = (decides_sound no_names).0 refl

line_sound : (bytes : List ℕ) (at : ℕ) (old new : Names_data) (machine : Machine_data) (until : ℕ) → SpellsMachine bytes at old new machine until → IsSound old → IsSound new
line_sound bytes at old new machine until s sound =
    let p = s in
    let l = machine_line bytes at old new machine until s in
    let t : AreGood (plain (codes "machine") ∷ plain l.role ∷ colon ∷ body_signs Acts p.tree.body)
    = subst AreGood (p.spelt ∙ l.signs) (record { all = tokens_are_good bytes p.lexemes at p.behind p.others (are_lexed bytes (p.lexemes ++ p.behind ∷ p.others) at p.tokens) }) in
    let words : AreWords (labels_of Acts p.tree.body) = body_words p.tree.body (tail_good _ _ (tail_good (plain l.role) _ (tail_good (plain (codes "machine")) _ t))) in
    subst IsSound (sym p.names_are) (sound_grown old (labels_of Acts p.tree.body) sound words)

-- ---- tables

arm_word : (a : ArmTree) → AreGood (tables.arm_signs a) → is_word a.label ≡ true
arm_word a h = label_is_word a.label (head_good (word_sign a.label) _ h)

later_arms_words : (arms : List ArmTree) → AreGood (flat_map tables.later_arm_signs arms) → AreWords (of_tables.labels_of_arms arms)
later_arms_words [] h = refl
later_arms_words (a ∷ arms) h =
    let rest : AreGood (tables.arm_signs a ++ flat_map tables.later_arm_signs arms) = tail_good comma (tables.arm_signs a ++ flat_map tables.later_arm_signs arms) h in
    two_true (is_word a.label) (list_all is_word (of_tables.labels_of_arms arms)) (arm_word a (front_good (tables.arm_signs a) (flat_map tables.later_arm_signs arms) rest))
    (later_arms_words arms (back_good (tables.arm_signs a) (flat_map tables.later_arm_signs arms) rest))

row_words : (n : ℕ) (t : RowTree) → AreGood (tables.row_signs n t) → AreWords (labels_of_row t)
row_words n tables.end_row h = refl
row_words n (tables.choice_row peer mark first later) h =
    let inner : AreGood (tables.arms_signs first later ++ signs.close_brace ∷ []) = tail_good signs.open_brace _ (tail_good _ _ (tail_good (plain peer) _ (tail_good (signs.number n) _ h))) in
    let arms : AreGood (tables.arm_signs first ++ flat_map tables.later_arm_signs later) = front_good (tables.arms_signs first later) (signs.close_brace ∷ []) inner in
    two_true (is_word first.label) (list_all is_word (of_tables.labels_of_arms later)) (arm_word first (front_good (tables.arm_signs first) (flat_map tables.later_arm_signs later) arms))
    (later_arms_words later (back_good (tables.arm_signs first) (flat_map tables.later_arm_signs later) arms))

rows_words : (n : ℕ) (rows : List RowTree) → AreGood (tables.rows_signs n rows) → AreWords (labels_of_rows rows)
rows_words n [] h = refl
rows_words n (t ∷ rows) h =
    words_both (labels_of_row t) (labels_of_rows rows) (row_words n t (front_good (tables.row_signs n t) (tables.rows_signs (suc n) rows) h))
    (rows_words (suc n) rows (back_good (tables.row_signs n t) (tables.rows_signs (suc n) rows) h))

table_sound : (bytes : List ℕ) (at : ℕ) (old new : Names_data) (machine : Machine_data) (until : ℕ) → SpellsTable bytes at old new machine until → IsSound old → IsSound new
table_sound bytes at old new machine until s sound =
    let t : TableTree = s.tree in
    let all : AreGood (tables.table_signs t)
    = subst AreGood s.spelt (record { all = tokens_are_good bytes s.lexemes at s.behind s.others (are_lexed bytes (s.lexemes ++ s.behind ∷ s.others) at s.tokens) }) in
    let rows : AreGood (tables.rows_signs 0 t.rows)
    = front_good (tables.rows_signs 0 t.rows) (signs.close_brace ∷ []) (back_good (tables.head_signs t.role) (tables.rows_signs 0 t.rows ++ signs.close_brace ∷ []) all) in
    subst IsSound (sym s.names_are) (sound_grown old (labels_of_rows t.rows) sound (rows_words 0 t.rows rows))

machine_sound : (bytes : List ℕ) (at : ℕ) (old new : Names_data) (machine : Machine_data) (until : ℕ) → machine_parts.Spells bytes at old new machine until → IsSound old → IsSound new
machine_sound bytes at old new machine until (inl s) sound = line_sound bytes at old new machine until s sound
machine_sound bytes at old new machine until (inr s) sound = table_sound bytes at old new machine until s sound

-- ---- derivations

act_word : (a : ActTree) → AreGood (act_signs a) → is_word a.label ≡ true
act_word a h = label_is_word a.label (head_good (word_sign a.label) _ (tail_good _ _ (tail_good (plain a.peer) _ h)))

later_words : (pending : List ActTree) → AreGood (with_separators (comma ∷ []) act_signs pending) → AreWords (labels_of_acts pending)
later_words [] h = refl
later_words (a ∷ pending) h =
    let rest = tail_good comma (act_signs a ++ with_separators (comma ∷ []) act_signs pending) h in
    two_true (is_word a.label) (list_all is_word (labels_of_acts pending)) (act_word a (front_good (act_signs a) (with_separators (comma ∷ []) act_signs pending) rest))
    (later_words pending (back_good (act_signs a) (with_separators (comma ∷ []) act_signs pending) rest))

acts_words : (pending : List ActTree) → AreGood (acts_signs pending) → AreWords (labels_of_acts pending)
acts_words [] h = refl
acts_words (a ∷ pending) h =
    two_true (is_word a.label) (list_all is_word (labels_of_acts pending)) (act_word a (front_good (act_signs a) (with_separators (comma ∷ []) act_signs pending) h))
    (later_words pending (back_good (act_signs a) (with_separators (comma ∷ []) act_signs pending) h))

later_small : (ns : List ℕ) → AreGood (with_separators (comma ∷ []) number_signs ns) → All (λ k. k ≤ MOST_NUMBER) ns
later_small [] h = All-nil (λ k. k ≤ MOST_NUMBER)
later_small (n ∷ ns) h =
    let rest = tail_good comma (signs.number n ∷ with_separators (comma ∷ []) number_signs ns) h in
    All-cons (λ k. k ≤ MOST_NUMBER) n ns (small n (head_good (signs.number n) (with_separators (comma ∷ []) number_signs ns) rest))
    (later_small ns (tail_good (signs.number n) (with_separators (comma ∷ []) number_signs ns) rest))

numbers_small : (ns : List ℕ) → AreGood (numbers_signs ns) → All (λ k. k ≤ MOST_NUMBER) ns
numbers_small [] h = All-nil (λ k. k ≤ MOST_NUMBER)
numbers_small (n ∷ ns) h =
    All-cons (λ k. k ≤ MOST_NUMBER) n ns (small n (head_good (signs.number n) (with_separators (comma ∷ []) number_signs ns) h))
    (later_small ns (tail_good (signs.number n) (with_separators (comma ∷ []) number_signs ns) h))

good_numbers : (new : Names_data) (f : Format) (lists : ListsTree f) (k : ℕ) (n : NodeTree f) → AreGood (node_signs f k n) → HasSmallNumbers (node_of_tree new f lists n)
good_numbers new f lists k n h =
    let state = tail_good signs.colon _ (tail_good (signs.number k) _ h) in
    let body : AreGood (pending_signs f n.pending ++ rest_signs n) = tail_good (signs.number n.state) _ state in
    let above = back_good (pending_signs f n.pending) (rest_signs n) body in
    let rank = tail_good (plain (codes "rank")) _ (tail_good (signs.number n.above) _ above) in
    let next : AreGood (numbers_signs n.next ++ signs.close_bracket ∷ []) = tail_good signs.open_bracket _ (tail_good (plain (codes "next")) _ (tail_good (signs.number n.rank) _ rank)) in
    record {
      state = small n.state (head_good (signs.number n.state) _ state);
      above = small n.above (head_good (signs.number n.above) _ above);
      rank = small n.rank (head_good (signs.number n.rank) _ rank);
      next = numbers_small n.next (front_good (numbers_signs n.next) (signs.close_bracket ∷ []) next);
    }

nodes_small : (new : Names_data) (f : Format) (lists : ListsTree f) (k : ℕ) (ns : List (NodeTree f)) → AreGood (nodes_signs f k ns) → All HasSmallNumbers (map (node_of_tree new f lists) ns)
nodes_small new f lists k [] h = All-nil HasSmallNumbers
nodes_small new f lists k (n ∷ ns) h =
    All-cons HasSmallNumbers (node_of_tree new f lists n) (map (node_of_tree new f lists) ns) (good_numbers new f lists k n (front_good (node_signs f k n) (nodes_signs f (suc k) ns) h))
    (nodes_small new f lists (suc k) ns (back_good (node_signs f k n) (nodes_signs f (suc k) ns) h))

-- the labels of one list and of the others
with_first : (xs : List ActTree) (lists : List (List ActTree)) → AreWords (labels_of_acts xs) → AreWords (labels_of_acts (all_acts lists)) → AreWords (labels_of_acts (all_acts (xs ∷ lists)))
with_first xs lists h k =
    subst AreWords (sym (map-append (λ (t : ActTree). t.label) xs (all_acts lists))) (words_both (labels_of_acts xs) (labels_of_acts (all_acts lists)) h k)

lists_words : (k : ℕ) (lists : List (List ActTree)) → AreGood (lists_signs_from k lists) → AreWords (labels_of_acts (all_acts lists))
lists_words k [] h = refl
lists_words k (xs ∷ lists) h =
    let line : AreGood (list_signs k xs) = front_good (list_signs k xs) (lists_signs_from (suc k) lists) h in
    with_first xs lists (acts_words xs (tail_good signs.colon _ (tail_good (signs.number k) _ (tail_good (plain (codes "pending")) _ line))))
    (lists_words (suc k) lists (back_good (list_signs k xs) (lists_signs_from (suc k) lists) h))

node_words : (k : ℕ) (n : NodeTree One) → AreGood (node_signs One k n) → AreWords (labels_of_acts n.pending)
node_words k n h =
    let body : AreGood (pending_signs One n.pending ++ rest_signs n) = tail_good (signs.number n.state) _ (tail_good signs.colon _ (tail_good (signs.number k) _ h)) in
    let pending : AreGood (acts_signs n.pending ++ signs.close_bracket ∷ []) = tail_good signs.open_bracket _ (front_good (pending_signs One n.pending) (rest_signs n) body) in
    acts_words n.pending (front_good (acts_signs n.pending) (signs.close_bracket ∷ []) pending)

nodes_words : (k : ℕ) (ns : List (NodeTree One)) → AreGood (nodes_signs One k ns) → AreWords (labels_of_acts (all_acts (map (λ (n : NodeTree One). n.pending) ns)))
nodes_words k [] h = refl
nodes_words k (n ∷ ns) h =
    with_first n.pending (map (λ (x : NodeTree One). x.pending) ns) (node_words k n (front_good (node_signs One k n) (nodes_signs One (suc k) ns) h))
    (nodes_words (suc k) ns (back_good (node_signs One k n) (nodes_signs One (suc k) ns) h))

written_words : (f : Format) (lists : ListsTree f) (ns : List (NodeTree f)) → AreGood (lists_signs f lists) → AreGood (nodes_signs f 0 ns) → AreWords (labels_of_acts (all_acts (written_lists f lists ns)))
written_words One none ns h k = nodes_words 0 ns k
written_words Two lists ns h k = lists_words 1 lists h

record AreTreeSignsGood (t : DerivationTree) : Type 0 where
  lists : AreGood (lists_signs t.format t.lists)
  nodes : AreGood (nodes_signs t.format 0 t.nodes)

derivation_signs_good : (bytes : List ℕ) (at : ℕ) (old new : Names_data) (d : Derivation_data) (until : ℕ) (s : SpellsDerivation bytes at old new d until) → AreTreeSignsGood s.tree
derivation_signs_good bytes at old new d until s =
    let t : DerivationTree = s.tree in
    let nodes : List Sign = nodes_signs t.format 0 t.nodes in
    let lists : List Sign = lists_signs t.format t.lists in
    let all : AreGood (derivation_signs t)
    = subst AreGood s.spelt (record { all = tokens_are_good bytes s.lexemes at s.behind s.others (are_lexed bytes (s.lexemes ++ s.behind ∷ s.others) at s.tokens) }) in
    let back : AreGood (lists ++ (nodes ++ signs.close_brace ∷ [])) = back_good (head_signs t.role t.format t.bound) (lists ++ (nodes ++ signs.close_brace ∷ [])) all in
    record {
      lists = front_good lists (nodes ++ signs.close_brace ∷ []) back;
      nodes = front_good nodes (signs.close_brace ∷ []) (back_good lists (nodes ++ signs.close_brace ∷ []) back);
    }

derivation_sound : (bytes : List ℕ) (at : ℕ) (old new : Names_data) (d : Derivation_data) (until : ℕ) → SpellsDerivation bytes at old new d until → IsSound old → IsSound new
derivation_sound bytes at old new d until s sound =
    let t : DerivationTree = s.tree in
    let good = derivation_signs_good bytes at old new d until s in
    subst IsSound (sym s.names_are) (sound_grown old (labels_of_acts (acts_of t)) sound (written_words t.format t.lists t.nodes good.lists good.nodes))

derivation_small : (bytes : List ℕ) (at : ℕ) (old new : Names_data) (d : Derivation_data) (until : ℕ) → SpellsDerivation bytes at old new d until → AreSmall d
derivation_small bytes at old new d until s =
    let t : DerivationTree = s.tree in
    subst AreSmall (sym s.derivation_is) (nodes_small new t.format t.lists 0 t.nodes (derivation_signs_good bytes at old new d until s).nodes)

-- ---- documents

keeps_sound : {A : Type 0} (kind : PartKind A) → ((bytes : List ℕ) (at : ℕ) (old new : Names_data) (part : A) (until : ℕ) → kind.Spells bytes at old new part until → IsSound old → IsSound new)
    → (bytes : List ℕ) (at : ℕ) (names : Names_data) (parts : List (Option A)) (what : Result (PartsRead A) TextFault) (row : PartsRead A) → GoesOn kind bytes at names parts what → what ≡ good row
    → IsSound names
    → IsSound row.names
keeps_sound {A} kind f bytes at names parts what row (Stops a n m e) is sound =
    let same : row_of names parts at ≡ row = cc in
    subst (λ (z : PartsRead A). IsSound z.names) same sound
keeps_sound kind f bytes at names parts what row (Repeats a u n m e z) is sound = absurd cc
keeps_sound kind f bytes at names parts what row (Fails a u n m j e z r) is sound = absurd cc
keeps_sound kind f bytes at names parts what row (Adds a next n new m part w e z s g) is sound =
    keeps_sound kind f bytes next new (parts_with kind parts part) what row g is (f bytes at names new part next s sound)

in_places : {A : Type 0} (kind : PartKind A) (names : List (List ℕ)) (roles : List (List ℕ)) (parts : List (Option A)) → roles ≡ names → length parts ≡ length (no_parts {A = A} names)
    → (StandInPlace kind.role_of (no_parts names) → StandInPlace kind.role_of parts) → StandInPlaces kind roles parts
in_places {A} kind names roles parts e size f = record { one_each = size ∙ size_of_none A names ∙ ap length (sym e); in_place = f (λ k part there. absurd (none_there names k part there)) }

pub spelt_again : (bytes : List ℕ) (d : Document_data) → SpellsDocument bytes d → CanBeReadAgain d
spelt_again bytes d h =
    let front = h.parts.front_is in
    let middle = row_of h.before d.machines h.next in
    let back = row_of d.names d.derivations h.end in
    let k = keeps machine_parts of_machines bytes front.until front.names (no_parts front.names.roles) (good middle) middle front.machines_are refl in
    let j = keeps derivation_parts of_derivations bytes h.next h.before (no_parts h.before.roles) (good back) back h.parts.derivations_are refl in
    let first : IsSound front.names
    = is_sound protocols no_names bytes 0 (record { names = front.names; graph = d.protocol; until = front.until }) refl none_sound (omega arith)
    (complete protocols is_kind.made no_names bytes 0 front.names d.protocol front.until front.protocol_is) in
    let mid : IsSound h.before = keeps_sound machine_parts machine_sound bytes front.until front.names (no_parts front.names.roles) (good middle) middle front.machines_are refl first in
    let sound : IsSound d.names = keeps_sound derivation_parts derivation_sound bytes h.next h.before (no_parts h.before.roles) (good back) back h.parts.derivations_are refl mid in
    record {
      shown = can_show bytes d h sound;
      bounded = keeps_few derivation_parts of_derivations bytes h.next h.before (no_parts h.before.roles) (good back) back (front_few bytes d.protocol middle front) h.parts.derivations_are refl;
      machines = in_places machine_parts front.names.roles d.names.roles d.machines (j.roles ∙ k.roles) k.size k.in_place;
      derivations = in_places derivation_parts h.before.roles d.names.roles d.derivations j.roles j.size j.in_place;
      small = kept derivation_parts of_derivations (λ names x. AreSmall x) (λ old new g x s. s) derivation_small bytes h.next h.before (no_parts h.before.roles)
          (good back) back h.parts.derivations_are refl (λ n x e. absurd (none_there h.before.roles n x e));
    }
