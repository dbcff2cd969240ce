-- No arrow stands in a machine, a table or a derivation.
use Rattle.std.proofs.Common.{◌≡◌, ℕ, suc, ◌&&◌, List, [], ◌∷◌, ◌++◌, Bool, true, false, Option, Some, None, if◌then◌else◌, refl, ◌∙◌, codes}
use Rattle.std.proofs.lemmas.List.Folds.{list_all-append}
use Rattle.std.specs.List.{flat_map, list_all}
use Rattle.std.specs.Str.{bytes_eq}
use Rattle.rs_model.specs.declared.values.Sort.{Sort}
use Rattle.rs_text.specs.Arms as arms
use Rattle.rs_text.specs.Arms.{sort_signs}
use Rattle.rs_text.specs.Signs.{Sign, rec_word, end_word, plain, number, arrow, dot, comma, open_brace, close_brace, open_paren, close_paren, close_bracket, word_sign}
use Rattle.rs_bodies.specs.declared.dialects.Dialect.TheVariants.{Talks, Acts}
use Rattle.rs_bodies.specs.declared.dialects.Mark.{Mark}
use Rattle.rs_bodies.specs.declared.dialects.Mark.TheVariants as mark
use Rattle.rs_bodies.specs.Dialects.{with_mark, mark_sign, turns}
use Rattle.rs_bodies.specs.Trees.{Body, ends, again, binds, acts, offers, Branches, one, more, body_signs, branch_signs}
use Rattle.rs_prefix.specs.declared.earliest.ActKind.{ActKind}
use Rattle.rs_prefix.specs.declared.earliest.ActKind.TheVariants as act
use Rattle.rs_tables.specs.Trees as tables
use Rattle.rs_tables.specs.Trees.{ArmTree, RowTree, end_row, choice_row, TableTree}
use Rattle.rs_derivations.specs.Lists.{list_with_separators, with_separators}
use Rattle.rs_derivations.specs.declared.formats.Format.{Format}
use Rattle.rs_derivations.specs.declared.formats.Format.TheVariants as format
use Rattle.rs_derivations.specs.Trees as derivations
use Rattle.rs_derivations.specs.Trees.{ActTree, DerivationTree, ListsTree, NodeTree, PendingTree}
use Rattle.rs_places.proofs.Turns.{found}

abbrev no_arrow : Sign → Bool
no_arrow arrow = false
no_arrow _ = true

-- none of these signs is an arrow
abbrev pub HaveNoArrow : List Sign → Type 0
HaveNoArrow xs = list_all no_arrow xs ≡ true

no_turn : (s : Sign) → no_arrow s ≡ true → turns Talks s ≡ false
no_turn arrow h = absurd (cc h)
no_turn _ h = refl

both : (a b : Bool) → (a && b) ≡ true → (a ≡ true) × (b ≡ true)
both true b h = (refl, h)
both false b h = absurd (cc h)

pub none_found : (xs : List Sign) (p : Sign) → HaveNoArrow xs → found Talks p xs ≡ []
none_found [] p h = refl
none_found (x ∷ xs) p h = let a = both (no_arrow x) (list_all no_arrow xs) h in rw (no_turn x a.0) (none_found xs x a.1)

pub join : (xs ys : List Sign) → HaveNoArrow xs → HaveNoArrow ys → HaveNoArrow (xs ++ ys)
join xs ys h k = list_all-append no_arrow xs ys ∙ rw (h, k) refl

put : (x : Sign) (xs : List Sign) → no_arrow x ≡ true → HaveNoArrow xs → HaveNoArrow (x ∷ xs)
put x xs h k = rw (h, k) refl

-- ---- words, sorts and marks

word_if : (b c : Bool) (text : List ℕ) → no_arrow (if b then rec_word else if c then end_word else plain text) ≡ true
word_if true c text = refl
word_if false true text = refl
word_if false false text = refl

word_none : (text : List ℕ) → no_arrow (word_sign text) ≡ true
word_none text = word_if (bytes_eq text (codes "rec")) (bytes_eq text (codes "end")) text

sort_none : (sort : Option Sort) → HaveNoArrow (sort_signs sort)
sort_none None = refl
sort_none (Some s) = refl

mark_none : (m : Mark) → no_arrow (mark_sign m) ≡ true
mark_none mark.Puts = refl
mark_none mark.Takes = refl

-- ---- bodies of acts

arm_none : (label : List ℕ) (sort : Option Sort) → HaveNoArrow (arms.arm_signs label sort)
arm_none label sort = put (word_sign label) (open_paren ∷ (sort_signs sort ++ close_paren ∷ dot ∷ [])) (word_none label) (join (sort_signs sort) (close_paren ∷ dot ∷ []) (sort_none sort) refl)

mutual
  pub body_none : (b : Body Acts) → HaveNoArrow (body_signs Acts b)
  body_none ends = refl
  body_none (again name) = refl
  body_none (binds name b) = body_none b
  body_none (acts p (with_mark m) l sort b) = put (mark_sign m) (arms.arm_signs l sort ++ body_signs Acts b) (mark_none m) (join (arms.arm_signs l sort) (body_signs Acts b) (arm_none l sort) (body_none b))
  body_none (offers p (with_mark m) arms) = put (mark_sign m) (open_brace ∷ (branch_signs Acts arms ++ close_brace ∷ [])) (mark_none m) (join (branch_signs Acts arms) (close_brace ∷ []) (branches_none arms) refl)

  branches_none : (b : Branches Acts) → HaveNoArrow (branch_signs Acts b)
  branches_none (one l sort b) = join (arms.arm_signs l sort) (body_signs Acts b) (arm_none l sort) (body_none b)
  branches_none (more l sort b later) = join (arms.arm_signs l sort) (body_signs Acts b ++ comma ∷ branch_signs Acts later) (arm_none l sort)
      (join (body_signs Acts b) (comma ∷ branch_signs Acts later) (body_none b) (branches_none later))

-- ---- tables

table_arm_none : (a : ArmTree) → HaveNoArrow (tables.arm_signs a)
table_arm_none a = put (word_sign a.label) (open_paren ∷ (sort_signs a.sort ++ close_paren ∷ number a.next ∷ [])) (word_none a.label) (join (sort_signs a.sort) (close_paren ∷ number a.next ∷ []) (sort_none a.sort) refl)

later_arms_none : (later : List ArmTree) → HaveNoArrow (flat_map tables.later_arm_signs later)
later_arms_none [] = refl
later_arms_none (a ∷ later) = join (tables.later_arm_signs a) (flat_map tables.later_arm_signs later) (table_arm_none a) (later_arms_none later)

row_none : (n : ℕ) (t : RowTree) → HaveNoArrow (tables.row_signs n t)
row_none n end_row = refl
row_none n (choice_row peer m first later) =
    put (mark_sign m) (open_brace ∷ (tables.arms_signs first later ++ close_brace ∷ [])) (mark_none m)
    (join (tables.arms_signs first later) (close_brace ∷ []) (join (tables.arm_signs first) (flat_map tables.later_arm_signs later) (table_arm_none first) (later_arms_none later)) refl)

rows_none : (rows : List RowTree) (n : ℕ) → HaveNoArrow (tables.rows_signs n rows)
rows_none [] n = refl
rows_none (t ∷ ts) n = join (tables.row_signs n t) (tables.rows_signs (suc n) ts) (row_none n t) (rows_none ts (suc n))

pub table_none : (t : TableTree) → HaveNoArrow (tables.table_signs t)
table_none t = join (tables.rows_signs 0 t.rows) (close_brace ∷ []) (rows_none t.rows 0) refl

-- ---- derivations

kind_none : (k : ActKind) → no_arrow (derivations.mark_sign k) ≡ true
kind_none act.Send = refl
kind_none act.Receive = refl

act_none : (a : ActTree) → HaveNoArrow (derivations.act_signs a)
act_none a =
    put (derivations.mark_sign a.kind) (word_sign a.label ∷ open_paren ∷ (sort_signs a.sort ++ close_paren ∷ [])) (kind_none a.kind)
    (put (word_sign a.label) (open_paren ∷ (sort_signs a.sort ++ close_paren ∷ [])) (word_none a.label) (join (sort_signs a.sort) (close_paren ∷ []) (sort_none a.sort) refl))

separated_none : {A : Type 0} (shown : A → List Sign) → ((x : A) → HaveNoArrow (shown x)) → (xs : List A) → HaveNoArrow (with_separators (comma ∷ []) shown xs)
separated_none shown h [] = refl
separated_none shown h (x ∷ xs) = join (shown x) (with_separators (comma ∷ []) shown xs) (h x) (separated_none shown h xs)

list_none : {A : Type 0} (shown : A → List Sign) → ((x : A) → HaveNoArrow (shown x)) → (xs : List A) → HaveNoArrow (list_with_separators (comma ∷ []) shown xs)
list_none shown h [] = refl
list_none shown h (x ∷ xs) = join (shown x) (with_separators (comma ∷ []) shown xs) (h x) (separated_none shown h xs)

lists_none_from : (lists : List (List ActTree)) (n : ℕ) → HaveNoArrow (derivations.lists_signs_from n lists)
lists_none_from [] n = refl
lists_none_from (held ∷ later) n = join (derivations.list_signs n held) (derivations.lists_signs_from (suc n) later) (list_none derivations.act_signs act_none held) (lists_none_from later (suc n))

lists_none : (f : Format) (lists : ListsTree f) → HaveNoArrow (derivations.lists_signs f lists)
lists_none format.One none = refl
lists_none format.Two lists = lists_none_from lists 1

pending_none : (f : Format) (p : PendingTree f) → HaveNoArrow (derivations.pending_signs f p)
pending_none format.One held = join (derivations.acts_signs held) (close_bracket ∷ []) (list_none derivations.act_signs act_none held) refl
pending_none format.Two n = refl

node_none : (f : Format) (n : ℕ) (t : NodeTree f) → HaveNoArrow (derivations.node_signs f n t)
node_none f n t =
    join (derivations.pending_signs f t.pending) (derivations.rest_signs t) (pending_none f t.pending)
    (join (derivations.numbers_signs t.next) (close_bracket ∷ []) (list_none derivations.number_signs (λ k. refl) t.next) refl)

nodes_none : (f : Format) (nodes : List (NodeTree f)) (n : ℕ) → HaveNoArrow (derivations.nodes_signs f n nodes)
nodes_none f [] n = refl
nodes_none f (t ∷ ts) n = join (derivations.node_signs f n t) (derivations.nodes_signs f (suc n) ts) (node_none f n t) (nodes_none f ts (suc n))

format_none : (f : Format) → HaveNoArrow (derivations.format_signs f)
format_none format.One = refl
format_none format.Two = refl

pub derivation_none : (t : DerivationTree) → HaveNoArrow (derivations.derivation_signs t)
derivation_none t =
    join (derivations.head_signs t.role t.format t.bound) (derivations.lists_signs t.format t.lists ++ (derivations.nodes_signs t.format 0 t.nodes ++ close_brace ∷ []))
    (join (derivations.format_signs t.format) (plain (codes "bound") ∷ number t.bound ∷ open_brace ∷ []) (format_none t.format) refl)
    (join (derivations.lists_signs t.format t.lists) (derivations.nodes_signs t.format 0 t.nodes ++ close_brace ∷ []) (lists_none t.format t.lists)
    (join (derivations.nodes_signs t.format 0 t.nodes) (close_brace ∷ []) (nodes_none t.format t.nodes 0) refl))

-- none of the later signs is one
pub later_none : (x : Sign) (xs : List Sign) → HaveNoArrow (x ∷ xs) → HaveNoArrow xs
later_none x xs h = (both (no_arrow x) (list_all no_arrow xs) h).1
