-- How a place goes on by a token, by the grammar alone, and the tokens before the new place.
use Rattle.std.proofs.Common.{◌≡◌, ℕ, suc, ◌+◌, ◌≤◌, List, [], ◌∷◌, ◌++◌, codes, length, Bool, true, false, ◌&&◌, ◌==◌, if◌then◌else◌, Option, Some, None, IfSome, refl, sym, ap, ◌∙◌}
use Rattle.std.proofs.Common.{append_assoc, append-nil, arith}
use Rattle.std.proofs.lemmas.Bool.{eqb-true}
use Rattle.std.proofs.lemmas.Slice.Eq.{bytes_eq-Decides}
use Rattle.std.specs.List.{flat_map}
use Rattle.std.specs.Option.{option_map}
use Rattle.rs_model.specs.declared.values.Sort.{Sort}
use Rattle.rs_bodies.specs.declared.dialects.Mark.{Mark}
use Rattle.rs_bodies.specs.declared.dialects.Mark.TheVariants as mark
use Rattle.rs_bodies.specs.Dialects.{mark_sign}
use Rattle.rs_text.specs.ArmCuts.{ArmCut, at_label, behind_label, behind_paren, behind_sort, behind_head, arm_cut_signs}
use Rattle.rs_text.specs.Arms.{sort_signs}
use Rattle.rs_text.specs.Seen.{is_text, plain_text, word_text, sort_named}
use Rattle.rs_text.specs.Signs.{Sign, rec_word, end_word, plain, number, word_sign, bang, question, comma, open_brace, close_brace, open_paren, close_paren}
use Rattle.rs_text.proofs.Arms.{sort_text_is}
use Rattle.rs_text.proofs.Basics.{both, some_is}
use Rattle.rs_text.proofs.Judging.{IsProper}
use Rattle.rs_tables.specs.Cuts.{RowCut, at_number, behind_number, behind_peer, behind_mark, in_arm, behind_arm, Cut, at_begin, at_role, at_brace, in_rows, at_end, arm_with_comma}
use Rattle.rs_tables.specs.Cuts.{row_head_signs, row_cut_signs, cut_signs, IsPlace}
use Rattle.rs_text.specs.TokenTests.{number_value}
use Rattle.rs_tables.specs.Feeding.{mark_of, is_some_of}
use Rattle.rs_text.specs.TokenTests.{is_end, is_comma, is_open_brace, is_close_brace, is_keyword}
use Rattle.rs_tables.specs.Trees.{ArmTree, RowTree, end_row, choice_row, TableTree, arm_signs, later_arm_signs, arms_signs, row_signs, rows_signs, head_signs}

-- ---- growth

-- within a row: another place of it, its end, or the end of the table
pub data Grown : Type 0 where
  stays : (cut : RowCut) → Grown
  ends : (row : RowTree) → Grown
  closes : Grown

abbrev pub arm_tree : List ℕ → Option Sort → ℕ → ArmTree
arm_tree l s n = record { label = l; sort = s; next = n }

abbrev pub table_tree : List ℕ → List RowTree → TableTree
table_tree x rs = record { role = x; rows = rs }

abbrev pub armed : List ℕ → Mark → List ArmTree → ArmTree → RowCut
armed p m [] a = behind_arm p m a []
armed p m (x ∷ xs) a = behind_arm p m x (xs ++ a ∷ [])

abbrev pub number_step : List RowTree → Option ℕ → Bool → Option Grown
number_step rs (Some n) c = if n == length rs then Some (stays behind_number) else None
number_step rs None c = if c && is_some_of rs then Some closes else None

abbrev pub row_step : Option (List ℕ) → Bool → Option Grown
row_step (Some w) e = Some (stays (behind_peer w))
row_step None e = if e then Some (ends end_row) else None

abbrev pub mark_step : List ℕ → Option Mark → Option Grown
mark_step p None = None
mark_step p (Some m) = Some (stays (behind_mark p m))

abbrev pub label_step : List ℕ → Mark → List ArmTree → Option (List ℕ) → Option Grown
label_step p m arms None = None
label_step p m arms (Some l) = Some (stays (in_arm p m arms (behind_label l)))

abbrev pub is_open_paren : Sign → Bool
is_open_paren open_paren = true
is_open_paren _ = false

abbrev pub is_close_paren : Sign → Bool
is_close_paren close_paren = true
is_close_paren _ = false

abbrev pub sorted_step : List ℕ → Mark → List ArmTree → List ℕ → Option Sort → Option Grown
sorted_step p m arms l None = None
sorted_step p m arms l (Some q) = Some (stays (in_arm p m arms (behind_sort l q)))

abbrev pub sort_step : List ℕ → Mark → List ArmTree → List ℕ → Option (List ℕ) → Bool → Option Grown
sort_step p m arms l (Some w) c = sorted_step p m arms l (sort_named w)
sort_step p m arms l None c = if c then Some (stays (in_arm p m arms (behind_head l None))) else None

abbrev pub next_step : List ℕ → Mark → List ArmTree → List ℕ → Option Sort → Option ℕ → Option Grown
next_step p m arms l q None = None
next_step p m arms l q (Some n) = Some (stays (armed p m arms (arm_tree l q n)))

abbrev pub arm_grows : List ℕ → Mark → List ArmTree → ArmCut → Sign → Option Grown
arm_grows p m arms at_label t = label_step p m arms (word_text t)
arm_grows p m arms (behind_label l) t = if is_open_paren t then Some (stays (in_arm p m arms (behind_paren l))) else None
arm_grows p m arms (behind_paren l) t = sort_step p m arms l (plain_text t) (is_close_paren t)
arm_grows p m arms (behind_sort l q) t = if is_close_paren t then Some (stays (in_arm p m arms (behind_head l (Some q)))) else None
arm_grows p m arms (behind_head l q) t = next_step p m arms l q (number_value t)

-- behind these rows
abbrev pub row_grows : List RowTree → RowCut → Sign → Option Grown
row_grows rs at_number t = number_step rs (number_value t) (is_close_brace t)
row_grows rs behind_number t = row_step (plain_text t) (is_end t)
row_grows rs (behind_peer p) t = mark_step p (mark_of t)
row_grows rs (behind_mark p m) t = if is_open_brace t then Some (stays (in_arm p m [] at_label)) else None
row_grows rs (in_arm p m arms a) t = arm_grows p m arms a t
row_grows rs (behind_arm p m x xs) t = if is_comma t then Some (stays (in_arm p m (x ∷ xs) at_label)) else if is_close_brace t then Some (ends (choice_row p m x xs)) else None

abbrev pub grown_to : List ℕ → List RowTree → Grown → Cut
grown_to x rs (stays p) = in_rows x rs p
grown_to x rs (ends r) = in_rows x (rs ++ r ∷ []) at_number
grown_to x rs closes = at_end (table_tree x rs)

abbrev pub role_step : Option (List ℕ) → Option Cut
role_step None = None
role_step (Some w) = Some (at_brace w)

abbrev pub grows : Cut → Sign → Option Cut
grows at_begin t = if is_keyword (codes "table") t then Some at_role else None
grows at_role t = role_step (plain_text t)
grows (at_brace x) t = if is_open_brace t then Some (in_rows x [] at_number) else None
grows (in_rows x rs p) t = option_map (grown_to x rs) (row_grows rs p t)
grows (at_end t') t = None

-- ---- which token it was

end_is : (t : Sign) → is_end t ≡ true → t ≡ end_word
end_is end_word h = refl
end_is _ h = absurd (cc h)

comma_is : (t : Sign) → is_comma t ≡ true → t ≡ comma
comma_is comma h = refl
comma_is _ h = absurd (cc h)

open_brace_is : (t : Sign) → is_open_brace t ≡ true → t ≡ open_brace
open_brace_is open_brace h = refl
open_brace_is _ h = absurd (cc h)

close_brace_is : (t : Sign) → is_close_brace t ≡ true → t ≡ close_brace
close_brace_is close_brace h = refl
close_brace_is _ h = absurd (cc h)

open_paren_is : (t : Sign) → is_open_paren t ≡ true → t ≡ open_paren
open_paren_is open_paren h = refl
open_paren_is _ h = absurd (cc h)

close_paren_is : (t : Sign) → is_close_paren t ≡ true → t ≡ close_paren
close_paren_is close_paren h = refl
close_paren_is _ h = absurd (cc h)

mark_is : (t : Sign) (m : Mark) → mark_of t ≡ Some m → t ≡ mark_sign m
mark_is bang mark.Puts h = refl
mark_is bang mark.Takes h = absurd (cc h)
mark_is question mark.Puts h = absurd (cc h)
mark_is question mark.Takes h = refl
mark_is _ m h = absurd (cc h)

value_is : (t : Sign) (n : ℕ) → number_value t ≡ Some n → t ≡ number n
value_is (number k) n h = ap number (some_is k n h)
value_is _ n h = absurd (cc h)

plain_is : (t : Sign) (w : List ℕ) → plain_text t ≡ Some w → t ≡ plain w
plain_is (plain v) w h = ap plain (some_is v w h)
plain_is _ w h = absurd (cc h)

word_is : (t : Sign) (w : List ℕ) → IsProper t → word_text t ≡ Some w → t ≡ word_sign w
word_is rec_word w p h = ap word_sign (some_is (codes "rec") w h)
word_is end_word w p h = ap word_sign (some_is (codes "end") w h)
word_is (plain v) w p h = sym p ∙ ap word_sign (some_is v w h)
word_is _ w p h = absurd (cc h)

text_is : (o : Option (List ℕ)) (w : List ℕ) → is_text w o ≡ true → o ≡ Some w
text_is None w h = absurd (cc h)
text_is (Some v) w h = ap Some ((bytes_eq-Decides v w).0 h)

keyword_is : (w : List ℕ) (t : Sign) → is_keyword w t ≡ true → t ≡ plain w
keyword_is w t h = plain_is t w (text_is (plain_text t) w h)

-- ---- shapes of lists

comma_shape : (a f b : List Sign) → ((a ++ comma ∷ []) ++ f) ++ b ≡ a ++ (comma ∷ (f ++ b))
comma_shape a f b = append_assoc (a ++ comma ∷ []) f b ∙ append_assoc a (comma ∷ []) (f ++ b)

-- one arm more behind later ones
later_more : (xs : List ArmTree) (a : ArmTree) → flat_map later_arm_signs (xs ++ a ∷ []) ≡ comma ∷ (flat_map arm_with_comma xs ++ arm_signs a)
later_more [] a = append-nil (comma ∷ arm_signs a)
later_more (y ∷ ys) a =
    ap (λ z. comma ∷ (arm_signs y ++ z)) (later_more ys a) ∙ ap (λ z. comma ∷ z) (sym (comma_shape (arm_signs y) (flat_map arm_with_comma ys) (arm_signs a)))

one_more : (x : ArmTree) (xs : List ArmTree) (a : ArmTree) → arms_signs x (xs ++ a ∷ []) ≡ flat_map arm_with_comma (x ∷ xs) ++ arm_signs a
one_more x xs a = ap (λ z. arm_signs x ++ z) (later_more xs a) ∙ sym (comma_shape (arm_signs x) (flat_map arm_with_comma xs) (arm_signs a))

-- arms with a comma behind each are arms with a comma behind them
pub with_comma : (x : ArmTree) (xs : List ArmTree) → flat_map arm_with_comma (x ∷ xs) ≡ arms_signs x xs ++ comma ∷ []
with_comma x [] = append-nil (arm_signs x ++ comma ∷ []) ∙ ap (λ z. z ++ comma ∷ []) (sym (append-nil (arm_signs x)))
with_comma x (y ∷ ys) =
    append_assoc (arm_signs x) (comma ∷ []) (flat_map arm_with_comma (y ∷ ys)) ∙ ap (λ z. arm_signs x ++ (comma ∷ z)) (with_comma y ys)
    ∙ sym (append_assoc (arm_signs x) (comma ∷ arms_signs y ys) (comma ∷ []))

pub rows_more : (n : ℕ) (rs : List RowTree) (row : RowTree) → rows_signs n (rs ++ row ∷ []) ≡ rows_signs n rs ++ row_signs (n + length rs) row
rows_more n [] row = append-nil (row_signs n row) ∙ ap (λ z. row_signs z row) (omega arith)
rows_more n (t ∷ ts) row =
    let e : suc n + length ts ≡ n + length (t ∷ ts) = omega arith in
    ap (λ z. row_signs n t ++ z) (rows_more (suc n) ts row ∙ ap (λ z. rows_signs (suc n) ts ++ row_signs z row) e)
    ∙ sym (append_assoc (row_signs n t) (rows_signs (suc n) ts) (row_signs (n + length (t ∷ ts)) row))

-- ---- the tokens before the new place

abbrev GrownSigns : List RowTree → RowCut → Sign → Grown → Type 0
GrownSigns rs p t (stays q) = row_cut_signs (length rs) q ≡ row_cut_signs (length rs) p ++ t ∷ []
GrownSigns rs p t (ends row) = row_signs (length rs) row ≡ row_cut_signs (length rs) p ++ t ∷ []
GrownSigns rs p t closes = (row_cut_signs (length rs) p ≡ []) × (t ≡ close_brace) × (1 ≤ length rs)

if_grown : (b : Bool) (g : Grown) (P : Grown → Type 0) → (b ≡ true → P g) → IfSome (if b then Some g else None) P
if_grown true g P h = h refl
if_grown false g P h = tt

either_grown : (b c : Bool) (g h : Grown) (P : Grown → Type 0) → (b ≡ true → P g) → (c ≡ true → P h) → IfSome (if b then Some g else if c then Some h else None) P
either_grown true c g h P f k = f refl
either_grown false c g h P f k = if_grown c h P k

some_there : {A : Type 0} (xs : List A) → is_some_of xs ≡ true → 1 ≤ length xs
some_there [] h = absurd (cc h)
some_there (x ∷ xs) h = omega arith

-- a row, with the tokens of its arms
abbrev begun : ℕ → List ℕ → Mark → List Sign → List Sign
begun n p m z = row_head_signs n p m ++ z

armed_signs : (n : ℕ) (p : List ℕ) (m : Mark) (arms : List ArmTree) (a : ArmTree) → row_cut_signs n (armed p m arms a) ≡ begun n p m (flat_map arm_with_comma arms ++ arm_signs a)
armed_signs n p m [] a = ap (λ z. begun n p m z) (append-nil (arm_signs a))
armed_signs n p m (x ∷ xs) a = ap (λ z. begun n p m z) (one_more x xs a)

in_signs : (n : ℕ) (p : List ℕ) (m : Mark) (arms : List ArmTree) (own more : List Sign) (t : Sign) → more ≡ own ++ t ∷ []
    → begun n p m (flat_map arm_with_comma arms ++ more) ≡ begun n p m (flat_map arm_with_comma arms ++ own) ++ t ∷ []
in_signs n p m arms own more t e = ap (λ z. begun n p m (flat_map arm_with_comma arms ++ z)) e ∙ ap (λ z. begun n p m z) (sym (append_assoc (flat_map arm_with_comma arms) own (t ∷ [])))

marks_grow : (rs : List RowTree) (p : List ℕ) (t : Sign) (o : Option Mark) → mark_of t ≡ o → IfSome (mark_step p o) (GrownSigns rs (behind_peer p) t)
marks_grow rs p t None e = tt
marks_grow rs p t (Some m) e = ap (λ z. number (length rs) ∷ plain p ∷ z ∷ []) (sym (mark_is t m e))

labels_grow : (rs : List RowTree) (p : List ℕ) (m : Mark) (arms : List ArmTree) (t : Sign) (o : Option (List ℕ)) → IsProper t → word_text t ≡ o
    → IfSome (label_step p m arms o) (GrownSigns rs (in_arm p m arms at_label) t)
labels_grow rs p m arms t None proper e = tt
labels_grow rs p m arms t (Some l) proper e = in_signs (length rs) p m arms [] (word_sign l ∷ []) t (ap (λ z. z ∷ []) (sym (word_is t l proper e)))

sorted_grow : (rs : List RowTree) (p : List ℕ) (m : Mark) (arms : List ArmTree) (l w : List ℕ) (t : Sign) (o : Option Sort) → t ≡ plain w → sort_named w ≡ o
    → IfSome (sorted_step p m arms l o) (GrownSigns rs (in_arm p m arms (behind_paren l)) t)
sorted_grow rs p m arms l w t None f e = tt
sorted_grow rs p m arms l w t (Some q) f e =
    in_signs (length rs) p m arms (arm_cut_signs (behind_paren l)) (arm_cut_signs (behind_sort l q)) t (ap (λ z. word_sign l ∷ open_paren ∷ z ∷ []) (ap plain (sort_text_is w q e) ∙ sym f))

sorts_grow : (rs : List RowTree) (p : List ℕ) (m : Mark) (arms : List ArmTree) (l : List ℕ) (t : Sign) (o : Option (List ℕ)) → plain_text t ≡ o
    → IfSome (sort_step p m arms l o (is_close_paren t)) (GrownSigns rs (in_arm p m arms (behind_paren l)) t)
sorts_grow rs p m arms l t (Some w) e = sorted_grow rs p m arms l w t (sort_named w) (plain_is t w e) refl
sorts_grow rs p m arms l t None e =
    if_grown (is_close_paren t) (stays (in_arm p m arms (behind_head l None))) _
    (λ h. in_signs (length rs) p m arms (arm_cut_signs (behind_paren l)) (arm_cut_signs (behind_head l None)) t (ap (λ z. word_sign l ∷ open_paren ∷ z ∷ []) (sym (close_paren_is t h))))

next_shape : (l : List ℕ) (q : Option Sort) (n : ℕ) → arm_signs (arm_tree l q n) ≡ arm_cut_signs (behind_head l q) ++ number n ∷ []
next_shape l q n = ap (λ z. word_sign l ∷ open_paren ∷ z) (sym (append_assoc (sort_signs q) (close_paren ∷ []) (number n ∷ [])))

nexts_grow : (rs : List RowTree) (p : List ℕ) (m : Mark) (arms : List ArmTree) (l : List ℕ) (q : Option Sort) (t : Sign) (o : Option ℕ) → number_value t ≡ o
    → IfSome (next_step p m arms l q o) (GrownSigns rs (in_arm p m arms (behind_head l q)) t)
nexts_grow rs p m arms l q t None e = tt
nexts_grow rs p m arms l q t (Some n) e =
    armed_signs (length rs) p m arms (arm_tree l q n)
    ∙ in_signs (length rs) p m arms (arm_cut_signs (behind_head l q)) (arm_signs (arm_tree l q n)) t (next_shape l q n ∙ ap (λ z. arm_cut_signs (behind_head l q) ++ z ∷ []) (sym (value_is t n e)))

arm_signs_grow : (rs : List RowTree) (p : List ℕ) (m : Mark) (arms : List ArmTree) (a : ArmCut) (t : Sign) → IsProper t → IfSome (arm_grows p m arms a t) (GrownSigns rs (in_arm p m arms a) t)
arm_signs_grow rs p m arms at_label t proper = labels_grow rs p m arms t (word_text t) proper refl
arm_signs_grow rs p m arms (behind_label l) t proper =
    if_grown (is_open_paren t) (stays (in_arm p m arms (behind_paren l))) _
    (λ h. in_signs (length rs) p m arms (arm_cut_signs (behind_label l)) (arm_cut_signs (behind_paren l)) t (ap (λ z. word_sign l ∷ z ∷ []) (sym (open_paren_is t h))))
arm_signs_grow rs p m arms (behind_paren l) t proper = sorts_grow rs p m arms l t (plain_text t) refl
arm_signs_grow rs p m arms (behind_sort l q) t proper =
    if_grown (is_close_paren t) (stays (in_arm p m arms (behind_head l (Some q)))) _
    (λ h. in_signs (length rs) p m arms (arm_cut_signs (behind_sort l q)) (arm_cut_signs (behind_head l (Some q))) t
    (ap (λ z. arm_cut_signs (behind_sort l q) ++ z ∷ []) (sym (close_paren_is t h))))
arm_signs_grow rs p m arms (behind_head l q) t proper = nexts_grow rs p m arms l q t (number_value t) refl

numbers_grow : (rs : List RowTree) (t : Sign) (o : Option ℕ) → number_value t ≡ o → IfSome (number_step rs o (is_close_brace t)) (GrownSigns rs at_number t)
numbers_grow rs t (Some n) e = if_grown (n == length rs) (stays behind_number) _ (λ h. ap (λ z. z ∷ []) (ap number (sym (eqb-true n (length rs) h)) ∙ sym (value_is t n e)))
numbers_grow rs t None e = if_grown (is_close_brace t && is_some_of rs) closes _ (λ h. let k = both (is_close_brace t) (is_some_of rs) h in (refl, close_brace_is t k.0, some_there rs k.1))

peers_grow : (rs : List RowTree) (t : Sign) (o : Option (List ℕ)) → plain_text t ≡ o → IfSome (row_step o (is_end t)) (GrownSigns rs behind_number t)
peers_grow rs t (Some w) e = ap (λ z. number (length rs) ∷ z ∷ []) (sym (plain_is t w e))
peers_grow rs t None e = if_grown (is_end t) (ends end_row) _ (λ h. ap (λ z. number (length rs) ∷ z ∷ []) (sym (end_is t h)))

row_signs_grow : (rs : List RowTree) (p : RowCut) (t : Sign) → IsProper t → IfSome (row_grows rs p t) (GrownSigns rs p t)
row_signs_grow rs at_number t proper = numbers_grow rs t (number_value t) refl
row_signs_grow rs behind_number t proper = peers_grow rs t (plain_text t) refl
row_signs_grow rs (behind_peer p) t proper = marks_grow rs p t (mark_of t) refl
row_signs_grow rs (behind_mark p m) t proper =
    if_grown (is_open_brace t) (stays (in_arm p m [] at_label)) _ (λ h. ap (λ z. number (length rs) ∷ plain p ∷ mark_sign m ∷ z ∷ []) (sym (open_brace_is t h)))
row_signs_grow rs (in_arm p m arms a) t proper = arm_signs_grow rs p m arms a t proper
row_signs_grow rs (behind_arm p m x xs) t proper = either_grown (is_comma t) (is_close_brace t) (stays (in_arm p m (x ∷ xs) at_label)) (ends (choice_row p m x xs)) _
    (λ h. ap (λ z. begun (length rs) p m z) (append-nil (flat_map arm_with_comma (x ∷ xs)) ∙ with_comma x xs) ∙ ap (λ z. begun (length rs) p m (arms_signs x xs ++ z ∷ [])) (sym (comma_is t h)))
    (λ h. ap (λ z. begun (length rs) p m (arms_signs x xs ++ z ∷ [])) (sym (close_brace_is t h)))

-- ---- the same of a table

-- the tokens go on by this one, and the new place is one
abbrev pub GoesOn : Cut → Sign → Cut → Type 0
GoesOn c t d = (cut_signs d ≡ cut_signs c ++ t ∷ []) × IsPlace d

to_grown : (x : List ℕ) (rs : List RowTree) (p : RowCut) (t : Sign) (o : Option Grown) → IfSome o (GrownSigns rs p t) → IfSome (option_map (grown_to x rs) o) (GoesOn (in_rows x rs p) t)
to_grown x rs p t None h = tt
to_grown x rs p t (Some (stays q)) h =
    (ap (λ z. head_signs x ++ (rows_signs 0 rs ++ z)) h ∙ ap (λ z. head_signs x ++ z) (sym (append_assoc (rows_signs 0 rs) (row_cut_signs (length rs) p) (t ∷ []))), tt)
to_grown x rs p t (Some (ends row)) h =
    let e : 0 + length rs ≡ length rs = omega arith in (
      ap (λ z. head_signs x ++ z)
          (append-nil (rows_signs 0 (rs ++ row ∷ [])) ∙ rows_more 0 rs row ∙ ap (λ z. rows_signs 0 rs ++ z) (ap (λ z. row_signs z row) e ∙ h)
          ∙ sym (append_assoc (rows_signs 0 rs) (row_cut_signs (length rs) p) (t ∷ []))),
      tt,
    )
to_grown x rs p t (Some closes) h = (
  ap (λ z. head_signs x ++ (rows_signs 0 rs ++ z ∷ [])) (sym h.1)
      ∙ ap (λ z. head_signs x ++ (z ++ t ∷ [])) (sym (append-nil (rows_signs 0 rs)) ∙ ap (λ z. rows_signs 0 rs ++ z) (sym h.0)),
  h.2,
)

if_place : (b : Bool) (d : Cut) (P : Cut → Type 0) → (b ≡ true → P d) → IfSome (if b then Some d else None) P
if_place true d P h = h refl
if_place false d P h = tt

role_place : (t : Sign) (o : Option (List ℕ)) → plain_text t ≡ o → IfSome (role_step o) (GoesOn at_role t)
role_place t None e = tt
role_place t (Some w) e = (ap (λ z. plain (codes "table") ∷ z ∷ []) (sym (plain_is t w e)), tt)

-- a place goes on by the token to the place behind it
pub goes_on : (c : Cut) (t : Sign) → IsPlace c → IsProper t → IfSome (grows c t) (GoesOn c t)
goes_on at_begin t right proper = if_place (is_keyword (codes "table") t) at_role _ (λ h. (ap (λ z. z ∷ []) (sym (keyword_is (codes "table") t h)), tt))
goes_on at_role t right proper = role_place t (plain_text t) refl
goes_on (at_brace x) t right proper =
    if_place (is_open_brace t) (in_rows x [] at_number) _ (λ h. (ap (λ z. plain (codes "table") ∷ plain x ∷ z ∷ []) (sym (open_brace_is t h)), tt))
goes_on (in_rows x rs p) t right proper = to_grown x rs p t (row_grows rs p t) (row_signs_grow rs p t proper)
goes_on (at_end d) t right proper = tt
