-- The tokens of a place lead to it, so no other place has them; and a table can be made of each place.
use Rattle.std.proofs.Common.{◌≡◌, ℕ, suc, ◌≤◌, List, [], ◌∷◌, ◌++◌, codes, length, if◌then◌else◌, Option, Some, None, IfSome, refl, sym, ap, ◌∙◌, subst, append_assoc, append-nil}
use Rattle.std.proofs.Common.{length-append, arith}
use Rattle.std.proofs.lemmas.Bool.{eq-eqb}
use Rattle.std.specs.List.{flat_map}
use Rattle.std.specs.Option.{option_map}
use Rattle.rs_model.specs.declared.values.Sort.{Sort}
use Rattle.rs_bodies.specs.declared.dialects.Mark.{Mark}
use Rattle.rs_bodies.specs.declared.dialects.Mark.TheVariants as mark
use Rattle.rs_bodies.specs.Dialects.{mark_sign}
use Rattle.rs_text.specs.ArmCuts.{ArmCut, at_label, behind_label, behind_paren, behind_sort, behind_head, arm_cut_signs}
use Rattle.rs_text.specs.Arms.{sort_text}
use Rattle.rs_text.specs.Signs.{Sign, end_word, plain, number, word_sign, bang, comma, open_brace, close_brace, open_paren, close_paren}
use Rattle.rs_text.proofs.MessageLaws.{label_seen, sort_seen}
use Rattle.rs_tables.specs.Cuts.{RowCut, at_number, behind_number, behind_peer, behind_mark, in_arm, behind_arm, Cut, at_begin, at_role, at_brace, in_rows, at_end, arm_with_comma}
use Rattle.rs_tables.specs.Cuts.{row_head_signs, row_cut_signs, cut_signs, IsPlace}
use Rattle.rs_tables.specs.Faults.{Begins}
use Rattle.rs_tables.specs.Spells.{IsFormed}
use Rattle.rs_tables.specs.Trees.{ArmTree, RowTree, end_row, choice_row, TableTree, arm_signs, later_arm_signs, arms_signs, row_signs, rows_signs, head_signs, table_signs}
use Rattle.rs_tables.proofs.Grows.{arm_tree, table_tree, armed, grows, label_step, sorted_step, grown_to, stays, GoesOn, goes_on, with_comma}

-- ---- along tokens

abbrev pub along : Option Cut → List Sign → Option Cut
along None ts = None
along (Some c) [] = Some c
along (Some c) (t ∷ ts) = along (grows c t) ts

-- the tokens lead from one place to the other
abbrev pub Path : Cut → List Sign → Cut → Type 0
Path c xs d = along (Some c) xs ≡ Some d

pub along_both : (o : Option Cut) (xs ys : List Sign) → along o (xs ++ ys) ≡ along (along o xs) ys
along_both None xs ys = refl
along_both (Some c) [] ys = refl
along_both (Some c) (t ∷ xs) ys = along_both (grows c t) xs ys

path_then : (c d e : Cut) (xs ys : List Sign) → Path c xs d → Path d ys e → Path c (xs ++ ys) e
path_then c d e xs ys p q = along_both (Some c) xs ys ∙ ap (λ z. along z ys) p ∙ q

path_on : (c d e : Cut) (t : Sign) (ts : List Sign) → grows c t ≡ Some d → Path d ts e → Path c (t ∷ ts) e
path_on c d e t ts g p = ap (λ z. along z ts) g ∙ p

one : (c d : Cut) (t : Sign) → grows c t ≡ Some d → Path c (t ∷ []) d
one c d t g = ap (λ z. along z []) g

-- ---- steps that need a test

-- the place in a row
abbrev row : List ℕ → List RowTree → RowCut → Cut
row x rs p = in_rows x rs p

marked : (x : List ℕ) (rs : List RowTree) (p : List ℕ) (m : Mark) → grows (in_rows x rs (behind_peer p)) (mark_sign m) ≡ Some (in_rows x rs (behind_mark p m))
marked x rs p mark.Puts = refl
marked x rs p mark.Takes = refl

labelled : (x : List ℕ) (rs : List RowTree) (p : List ℕ) (m : Mark) (arms : List ArmTree) (l : List ℕ)
    → grows (in_rows x rs (in_arm p m arms at_label)) (word_sign l) ≡ Some (in_rows x rs (in_arm p m arms (behind_label l)))
labelled x rs p m arms l = ap (λ z. option_map (grown_to x rs) (label_step p m arms z)) (label_seen l)

sorted : (x : List ℕ) (rs : List RowTree) (p : List ℕ) (m : Mark) (arms : List ArmTree) (l : List ℕ) (q : Sort)
    → grows (in_rows x rs (in_arm p m arms (behind_paren l))) (plain (sort_text q)) ≡ Some (in_rows x rs (in_arm p m arms (behind_sort l q)))
sorted x rs p m arms l q = ap (λ z. option_map (grown_to x rs) (sorted_step p m arms l z)) (sort_seen q)

numbered : (x : List ℕ) (rs : List RowTree) → grows (in_rows x rs at_number) (number (length rs)) ≡ Some (in_rows x rs behind_number)
numbered x rs = ap (λ z. option_map (grown_to x rs) (if z then Some (stays behind_number) else None)) (eq-eqb (length rs) (length rs) refl)

-- ---- arms

path_paren : (x : List ℕ) (rs : List RowTree) (p : List ℕ) (m : Mark) (arms : List ArmTree) (l : List ℕ)
    → Path (in_rows x rs (in_arm p m arms at_label)) (arm_cut_signs (behind_paren l)) (in_rows x rs (in_arm p m arms (behind_paren l)))
path_paren x rs p m arms l =
    path_on (row x rs (in_arm p m arms at_label)) (row x rs (in_arm p m arms (behind_label l))) (row x rs (in_arm p m arms (behind_paren l))) (word_sign l) (open_paren ∷ [])
    (labelled x rs p m arms l) refl

path_sort : (x : List ℕ) (rs : List RowTree) (p : List ℕ) (m : Mark) (arms : List ArmTree) (l : List ℕ) (q : Sort)
    → Path (in_rows x rs (in_arm p m arms at_label)) (arm_cut_signs (behind_sort l q)) (in_rows x rs (in_arm p m arms (behind_sort l q)))
path_sort x rs p m arms l q =
    path_then (row x rs (in_arm p m arms at_label)) (row x rs (in_arm p m arms (behind_paren l))) (row x rs (in_arm p m arms (behind_sort l q))) (arm_cut_signs (behind_paren l))
    (plain (sort_text q) ∷ []) (path_paren x rs p m arms l)
    (one (row x rs (in_arm p m arms (behind_paren l))) (row x rs (in_arm p m arms (behind_sort l q))) (plain (sort_text q)) (sorted x rs p m arms l q))

path_cut : (x : List ℕ) (rs : List RowTree) (p : List ℕ) (m : Mark) (arms : List ArmTree) (a : ArmCut)
    → Path (in_rows x rs (in_arm p m arms at_label)) (arm_cut_signs a) (in_rows x rs (in_arm p m arms a))
path_cut x rs p m arms at_label = refl
path_cut x rs p m arms (behind_label l) = one (row x rs (in_arm p m arms at_label)) (row x rs (in_arm p m arms (behind_label l))) (word_sign l) (labelled x rs p m arms l)
path_cut x rs p m arms (behind_paren l) = path_paren x rs p m arms l
path_cut x rs p m arms (behind_sort l q) = path_sort x rs p m arms l q
path_cut x rs p m arms (behind_head l None) =
    path_then (row x rs (in_arm p m arms at_label)) (row x rs (in_arm p m arms (behind_paren l))) (row x rs (in_arm p m arms (behind_head l None))) (arm_cut_signs (behind_paren l))
    (close_paren ∷ []) (path_paren x rs p m arms l) refl
path_cut x rs p m arms (behind_head l (Some q)) =
    path_then (row x rs (in_arm p m arms at_label)) (row x rs (in_arm p m arms (behind_sort l q))) (row x rs (in_arm p m arms (behind_head l (Some q)))) (arm_cut_signs (behind_sort l q))
    (close_paren ∷ []) (path_sort x rs p m arms l q) refl

path_parts : (x : List ℕ) (rs : List RowTree) (p : List ℕ) (m : Mark) (arms : List ArmTree) (l : List ℕ) (q : Option Sort) (n : ℕ)
    → Path (in_rows x rs (in_arm p m arms at_label)) (arm_signs (arm_tree l q n)) (in_rows x rs (armed p m arms (arm_tree l q n)))
path_parts x rs p m arms l None n =
    path_then (row x rs (in_arm p m arms at_label)) (row x rs (in_arm p m arms (behind_head l None))) (row x rs (armed p m arms (arm_tree l None n))) (arm_cut_signs (behind_head l None))
    (number n ∷ []) (path_cut x rs p m arms (behind_head l None)) refl
path_parts x rs p m arms l (Some q) n =
    path_then (row x rs (in_arm p m arms at_label)) (row x rs (in_arm p m arms (behind_head l (Some q)))) (row x rs (armed p m arms (arm_tree l (Some q) n))) (arm_cut_signs (behind_head l (Some q)))
    (number n ∷ []) (path_cut x rs p m arms (behind_head l (Some q))) refl

path_arm : (x : List ℕ) (rs : List RowTree) (p : List ℕ) (m : Mark) (arms : List ArmTree) (a : ArmTree)
    → Path (in_rows x rs (in_arm p m arms at_label)) (arm_signs a) (in_rows x rs (armed p m arms a))
path_arm x rs p m arms a = path_parts x rs p m arms a.label a.sort a.next

-- further arms behind the first ones
path_later : (more : List ArmTree) (x : List ℕ) (rs : List RowTree) (p : List ℕ) (m : Mark) (y : ArmTree) (ys : List ArmTree)
    → Path (in_rows x rs (behind_arm p m y ys)) (flat_map later_arm_signs more) (in_rows x rs (behind_arm p m y (ys ++ more)))
path_later [] x rs p m y ys = ap (λ z. Some (in_rows x rs (behind_arm p m y z))) (sym (append-nil ys))
path_later (a ∷ more) x rs p m y ys =
    path_on (row x rs (behind_arm p m y ys)) (row x rs (in_arm p m (y ∷ ys) at_label)) (row x rs (behind_arm p m y (ys ++ (a ∷ more)))) comma (arm_signs a ++ flat_map later_arm_signs more) refl
    (path_then (row x rs (in_arm p m (y ∷ ys) at_label)) (row x rs (behind_arm p m y (ys ++ a ∷ []))) (row x rs (behind_arm p m y (ys ++ (a ∷ more)))) (arm_signs a) (flat_map later_arm_signs more)
    (path_arm x rs p m (y ∷ ys) a) (path_later more x rs p m y (ys ++ a ∷ []) ∙ ap (λ z. Some (in_rows x rs (behind_arm p m y z))) (append_assoc ys (a ∷ []) more)))

path_first : (x : List ℕ) (rs : List RowTree) (p : List ℕ) (m : Mark) (y : ArmTree) (ys : List ArmTree)
    → Path (in_rows x rs (in_arm p m [] at_label)) (arms_signs y ys) (in_rows x rs (behind_arm p m y ys))
path_first x rs p m y ys =
    path_then (row x rs (in_arm p m [] at_label)) (row x rs (behind_arm p m y [])) (row x rs (behind_arm p m y ys)) (arm_signs y) (flat_map later_arm_signs ys) (path_arm x rs p m [] y)
    (path_later ys x rs p m y [])

path_opened : (x : List ℕ) (rs : List RowTree) (p : List ℕ) (m : Mark) (arms : List ArmTree)
    → Path (in_rows x rs (in_arm p m [] at_label)) (flat_map arm_with_comma arms) (in_rows x rs (in_arm p m arms at_label))
path_opened x rs p m [] = refl
path_opened x rs p m (y ∷ ys) =
    ap (along (Some (in_rows x rs (in_arm p m [] at_label)))) (with_comma y ys)
    ∙ path_then (row x rs (in_arm p m [] at_label)) (row x rs (behind_arm p m y ys)) (row x rs (in_arm p m (y ∷ ys) at_label)) (arms_signs y ys) (comma ∷ []) (path_first x rs p m y ys) refl

-- ---- rows

path_peer : (x : List ℕ) (rs : List RowTree) (p : List ℕ) (z : Cut) (more : List Sign) → Path (in_rows x rs (behind_peer p)) more z → Path (in_rows x rs at_number) (number (length rs) ∷ plain p ∷ more) z
path_peer x rs p z more h = path_on (row x rs at_number) (row x rs behind_number) z (number (length rs)) (plain p ∷ more) (numbered x rs) h

path_mark : (x : List ℕ) (rs : List RowTree) (p : List ℕ) (m : Mark) (z : Cut) (more : List Sign) → Path (in_rows x rs (behind_mark p m)) more z
    → Path (in_rows x rs at_number) (number (length rs) ∷ plain p ∷ mark_sign m ∷ more) z
path_mark x rs p m z more h = path_peer x rs p z (mark_sign m ∷ more) (path_on (row x rs (behind_peer p)) (row x rs (behind_mark p m)) z (mark_sign m) more (marked x rs p m) h)

-- to the first arm of a row
path_begun : (x : List ℕ) (rs : List RowTree) (p : List ℕ) (m : Mark) (z : Cut) (more : List Sign) → Path (in_rows x rs (in_arm p m [] at_label)) more z
    → Path (in_rows x rs at_number) (row_head_signs (length rs) p m ++ more) z
path_begun x rs p m z more h = path_mark x rs p m z (open_brace ∷ more) h

path_place : (x : List ℕ) (rs : List RowTree) (p : RowCut) → Path (in_rows x rs at_number) (row_cut_signs (length rs) p) (in_rows x rs p)
path_place x rs at_number = refl
path_place x rs behind_number = one (row x rs at_number) (row x rs behind_number) (number (length rs)) (numbered x rs)
path_place x rs (behind_peer p) = path_peer x rs p (row x rs (behind_peer p)) [] refl
path_place x rs (behind_mark p m) = path_mark x rs p m (row x rs (behind_mark p m)) [] refl
path_place x rs (in_arm p m arms a) = path_begun x rs p m (row x rs (in_arm p m arms a)) (flat_map arm_with_comma arms ++ arm_cut_signs a)
    (path_then (row x rs (in_arm p m [] at_label)) (row x rs (in_arm p m arms at_label)) (row x rs (in_arm p m arms a)) (flat_map arm_with_comma arms) (arm_cut_signs a) (path_opened x rs p m arms)
    (path_cut x rs p m arms a))
path_place x rs (behind_arm p m y ys) = path_begun x rs p m (row x rs (behind_arm p m y ys)) (arms_signs y ys) (path_first x rs p m y ys)

path_row : (x : List ℕ) (rs : List RowTree) (r : RowTree) → Path (in_rows x rs at_number) (row_signs (length rs) r) (in_rows x (rs ++ r ∷ []) at_number)
path_row x rs end_row = path_on (row x rs at_number) (row x rs behind_number) (row x (rs ++ end_row ∷ []) at_number) (number (length rs)) (end_word ∷ []) (numbered x rs) refl
path_row x rs (choice_row p m y ys) = path_begun x rs p m (row x (rs ++ choice_row p m y ys ∷ []) at_number) (arms_signs y ys ++ close_brace ∷ [])
    (path_then (row x rs (in_arm p m [] at_label)) (row x rs (behind_arm p m y ys)) (row x (rs ++ choice_row p m y ys ∷ []) at_number) (arms_signs y ys) (close_brace ∷ []) (path_first x rs p m y ys) refl)

path_rows : (more : List RowTree) (x : List ℕ) (rs : List RowTree) → Path (in_rows x rs at_number) (rows_signs (length rs) more) (in_rows x (rs ++ more) at_number)
path_rows [] x rs = ap (λ z. Some (in_rows x z at_number)) (sym (append-nil rs))
path_rows (r ∷ more) x rs =
    let size : length (rs ++ r ∷ []) ≡ suc (length rs) = length-append rs (r ∷ []) ∙ omega arith in
    path_then (row x rs at_number) (row x (rs ++ r ∷ []) at_number) (row x (rs ++ (r ∷ more)) at_number) (row_signs (length rs) r) (rows_signs (suc (length rs)) more) (path_row x rs r)
    (subst (λ (z : ℕ). Path (in_rows x (rs ++ r ∷ []) at_number) (rows_signs z more) (in_rows x ((rs ++ r ∷ []) ++ more) at_number)) size (path_rows more x (rs ++ r ∷ []))
    ∙ ap (λ z. Some (in_rows x z at_number)) (append_assoc rs (r ∷ []) more))

path_head : (x : List ℕ) → Path at_begin (head_signs x) (in_rows x [] at_number)
path_head x = refl

closed_by : (x : List ℕ) (rs : List RowTree) → 1 ≤ length rs → Path (in_rows x rs at_number) (close_brace ∷ []) (at_end (table_tree x rs))
closed_by x [] h = absurd (omega arith)
closed_by x (r ∷ rs) h = refl

-- the tokens of a place lead to it
pub path : (c : Cut) → IsPlace c → Path at_begin (cut_signs c) c
path at_begin right = refl
path at_role right = refl
path (at_brace x) right = refl
path (in_rows x rs p) right =
    path_then at_begin (in_rows x [] at_number) (in_rows x rs p) (head_signs x) (rows_signs 0 rs ++ row_cut_signs (length rs) p) (path_head x)
    (path_then (in_rows x [] at_number) (in_rows x rs at_number) (in_rows x rs p) (rows_signs 0 rs) (row_cut_signs (length rs) p) (path_rows rs x []) (path_place x rs p))
path (at_end t) right =
    path_then at_begin (in_rows t.role [] at_number) (at_end t) (head_signs t.role) (rows_signs 0 t.rows ++ close_brace ∷ []) (path_head t.role)
    (path_then (in_rows t.role [] at_number) (in_rows t.role t.rows at_number) (at_end t) (rows_signs 0 t.rows) (close_brace ∷ []) (path_rows t.rows t.role []) (closed_by t.role t.rows right))

some_cut : (c d : Cut) → Some c ≡ Some d → c ≡ d
some_cut c d h = cc

-- no two places have the same tokens
pub one_place : (c d : Cut) → IsPlace c → IsPlace d → cut_signs c ≡ cut_signs d → c ≡ d
one_place c d p q e = some_cut c d (sym (path c p) ∙ ap (λ z. along (Some at_begin) z) e ∙ path d q)

-- ---- a table of each place

abbrev Completes : Cut → Type 0
Completes c = Begins (cut_signs c)

-- where the place goes on, and the place behind can be completed
by_next : (c d : Cut) (t : Sign) → GoesOn c t d → Completes d → Completes c
by_next c d t g h = (h.0, t ∷ h.1, h.2, h.3 ∙ ap (λ z. z ++ h.1) g.0 ∙ append_assoc (cut_signs c) (t ∷ []) h.1)

whole : (x : List ℕ) (rs : List RowTree) → 1 ≤ length rs → Completes (at_end (table_tree x rs))
whole x rs h = (table_tree x rs, [], h, sym (append-nil (table_signs (table_tree x rs))))

behind_row : (x : List ℕ) (rs : List RowTree) (r : RowTree) → Completes (in_rows x (rs ++ r ∷ []) at_number)
behind_row x [] r =
    by_next (in_rows x (r ∷ []) at_number) (at_end (table_tree x (r ∷ []))) close_brace (goes_on (in_rows x (r ∷ []) at_number) close_brace tt tt) (whole x (r ∷ []) (omega arith))
behind_row x (y ∷ ys) r =
    by_next (in_rows x (y ∷ (ys ++ r ∷ [])) at_number) (at_end (table_tree x (y ∷ (ys ++ r ∷ [])))) close_brace (goes_on (in_rows x (y ∷ (ys ++ r ∷ [])) at_number) close_brace tt tt)
    (whole x (y ∷ (ys ++ r ∷ [])) (omega arith))

from_number : (x : List ℕ) (rs : List RowTree) → Completes (in_rows x rs behind_number)
from_number x rs = by_next (row x rs behind_number) (row x (rs ++ end_row ∷ []) at_number) end_word (goes_on (row x rs behind_number) end_word tt tt) (behind_row x rs end_row)

from_start : (x : List ℕ) (rs : List RowTree) → Completes (in_rows x rs at_number)
from_start x rs =
    by_next (row x rs at_number) (row x rs behind_number) (number (length rs))
    (subst (λ (z : Option Cut). IfSome z (GoesOn (row x rs at_number) (number (length rs)))) (numbered x rs) (goes_on (row x rs at_number) (number (length rs)) tt tt)) (from_number x rs)

from_arm : (x : List ℕ) (rs : List RowTree) (p : List ℕ) (m : Mark) (y : ArmTree) (ys : List ArmTree) → Completes (in_rows x rs (behind_arm p m y ys))
from_arm x rs p m y ys =
    by_next (row x rs (behind_arm p m y ys)) (row x (rs ++ choice_row p m y ys ∷ []) at_number) close_brace (goes_on (row x rs (behind_arm p m y ys)) close_brace tt tt)
    (behind_row x rs (choice_row p m y ys))

from_armed : (x : List ℕ) (rs : List RowTree) (p : List ℕ) (m : Mark) (arms : List ArmTree) (a : ArmTree) → Completes (in_rows x rs (armed p m arms a))
from_armed x rs p m [] a = from_arm x rs p m a []
from_armed x rs p m (y ∷ ys) a = from_arm x rs p m y (ys ++ a ∷ [])

from_head : (x : List ℕ) (rs : List RowTree) (p : List ℕ) (m : Mark) (arms : List ArmTree) (l : List ℕ) (q : Option Sort) → Completes (in_rows x rs (in_arm p m arms (behind_head l q)))
from_head x rs p m arms l q =
    by_next (row x rs (in_arm p m arms (behind_head l q))) (row x rs (armed p m arms (arm_tree l q 0))) (number 0) (goes_on (row x rs (in_arm p m arms (behind_head l q))) (number 0) tt tt)
    (from_armed x rs p m arms (arm_tree l q 0))

from_sort : (x : List ℕ) (rs : List RowTree) (p : List ℕ) (m : Mark) (arms : List ArmTree) (l : List ℕ) (q : Sort) → Completes (in_rows x rs (in_arm p m arms (behind_sort l q)))
from_sort x rs p m arms l q =
    by_next (row x rs (in_arm p m arms (behind_sort l q))) (row x rs (in_arm p m arms (behind_head l (Some q)))) close_paren
    (goes_on (row x rs (in_arm p m arms (behind_sort l q))) close_paren tt tt) (from_head x rs p m arms l (Some q))

from_paren : (x : List ℕ) (rs : List RowTree) (p : List ℕ) (m : Mark) (arms : List ArmTree) (l : List ℕ) → Completes (in_rows x rs (in_arm p m arms (behind_paren l)))
from_paren x rs p m arms l =
    by_next (row x rs (in_arm p m arms (behind_paren l))) (row x rs (in_arm p m arms (behind_head l None))) close_paren
    (goes_on (row x rs (in_arm p m arms (behind_paren l))) close_paren tt tt) (from_head x rs p m arms l None)

from_label : (x : List ℕ) (rs : List RowTree) (p : List ℕ) (m : Mark) (arms : List ArmTree) (l : List ℕ) → Completes (in_rows x rs (in_arm p m arms (behind_label l)))
from_label x rs p m arms l =
    by_next (row x rs (in_arm p m arms (behind_label l))) (row x rs (in_arm p m arms (behind_paren l))) open_paren
    (goes_on (row x rs (in_arm p m arms (behind_label l))) open_paren tt tt) (from_paren x rs p m arms l)

at_first : (x : List ℕ) (rs : List RowTree) (p : List ℕ) (m : Mark) (arms : List ArmTree) → Completes (in_rows x rs (in_arm p m arms at_label))
at_first x rs p m arms =
    by_next (row x rs (in_arm p m arms at_label)) (row x rs (in_arm p m arms (behind_label (codes "end")))) end_word (goes_on (row x rs (in_arm p m arms at_label)) end_word tt tt)
    (from_label x rs p m arms (codes "end"))

from_in_arm : (x : List ℕ) (rs : List RowTree) (p : List ℕ) (m : Mark) (arms : List ArmTree) (a : ArmCut) → Completes (in_rows x rs (in_arm p m arms a))
from_in_arm x rs p m arms at_label = at_first x rs p m arms
from_in_arm x rs p m arms (behind_label l) = from_label x rs p m arms l
from_in_arm x rs p m arms (behind_paren l) = from_paren x rs p m arms l
from_in_arm x rs p m arms (behind_sort l q) = from_sort x rs p m arms l q
from_in_arm x rs p m arms (behind_head l q) = from_head x rs p m arms l q

from_mark : (x : List ℕ) (rs : List RowTree) (p : List ℕ) (m : Mark) → Completes (in_rows x rs (behind_mark p m))
from_mark x rs p m =
    by_next (row x rs (behind_mark p m)) (row x rs (in_arm p m [] at_label)) open_brace (goes_on (row x rs (behind_mark p m)) open_brace tt tt) (at_first x rs p m [])

from_peer : (x : List ℕ) (rs : List RowTree) (p : List ℕ) → Completes (in_rows x rs (behind_peer p))
from_peer x rs p = by_next (row x rs (behind_peer p)) (row x rs (behind_mark p mark.Puts)) bang (goes_on (row x rs (behind_peer p)) bang tt tt) (from_mark x rs p mark.Puts)

from_row : (x : List ℕ) (rs : List RowTree) (p : RowCut) → Completes (in_rows x rs p)
from_row x rs at_number = from_start x rs
from_row x rs behind_number = from_number x rs
from_row x rs (behind_peer p) = from_peer x rs p
from_row x rs (behind_mark p m) = from_mark x rs p m
from_row x rs (in_arm p m arms a) = from_in_arm x rs p m arms a
from_row x rs (behind_arm p m y ys) = from_arm x rs p m y ys

from_brace : (x : List ℕ) → Completes (at_brace x)
from_brace x = by_next (at_brace x) (in_rows x [] at_number) open_brace (goes_on (at_brace x) open_brace tt tt) (from_start x [])

from_role : Completes at_role
from_role = by_next at_role (at_brace (codes "a")) (plain (codes "a")) (goes_on at_role (plain (codes "a")) tt refl) (from_brace (codes "a"))

-- the tokens of a place begin a table
pub completes : (c : Cut) → IsPlace c → Begins (cut_signs c)
completes at_begin right = by_next at_begin at_role (plain (codes "table")) (goes_on at_begin (plain (codes "table")) tt refl) from_role
completes at_role right = from_role
completes (at_brace x) right = from_brace x
completes (in_rows x rs p) right = from_row x rs p
completes (at_end t) right = whole t.role t.rows right

-- where a place doesn't go on by a token, no table begins so
pub stuck : (c : Cut) (t : Sign) → IsPlace c → grows c t ≡ None → Begins (cut_signs c ++ t ∷ []) → ⊥
stuck c t right h b =
    let e : table_signs b.0 ≡ cut_signs c ++ (t ∷ b.1) = b.3 ∙ append_assoc (cut_signs c) (t ∷ []) b.1 in
    let p : along (Some at_begin) (cut_signs c ++ (t ∷ b.1)) ≡ Some (at_end b.0) = subst (λ (z : List Sign). along (Some at_begin) z ≡ Some (at_end b.0)) e (path (at_end b.0) b.2) in
    let q : along (Some at_begin) (cut_signs c ++ (t ∷ b.1)) ≡ along (grows c t) b.1 = along_both (Some at_begin) (cut_signs c) (t ∷ b.1) ∙ ap (λ z. along z (t ∷ b.1)) (path c right) in
    absurd (cc (sym p ∙ q ∙ ap (λ z. along z b.1) h))

-- and no place stands behind the end
pub no_further : (tree : TableTree) (t : Sign) (ys : List Sign) (d : Cut) → IsFormed tree → IsPlace d → cut_signs d ≡ table_signs tree ++ (t ∷ ys) → ⊥
no_further tree t ys d formed right e =
    let q : along (Some at_begin) (table_signs tree ++ (t ∷ ys)) ≡ None = along_both (Some at_begin) (table_signs tree) (t ∷ ys) ∙ ap (λ z. along z (t ∷ ys)) (path (at_end tree) formed) in
    absurd (cc (sym (path d right) ∙ ap (λ z. along (Some at_begin) z) e ∙ q))
