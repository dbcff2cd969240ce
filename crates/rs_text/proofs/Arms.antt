-- How an arm is lexed, cut off and completed.
use Rattle.std.proofs.Common.{Bool, true, false, ap, Option, List, refl, sym, Some, codes, None, append_assoc, ◌≡◌, ℕ, [], ◌∷◌, ◌++◌, if◌then◌else◌, ◌∙◌}
use Rattle.rs_text.specs.Arms.{sort_text, sort_or_unit, sort_signs, arm_signs}
use Rattle.rs_text.specs.ArmCuts.{behind_paren, behind_head, ArmCut, behind_sort, behind_label, arm_cut_signs, at_label, wanted_in_arm}
use Rattle.rs_text.specs.Shown.{shown_sort, shown_text, arm_text}
use Rattle.rs_model.specs.declared.values.Sort.{Sort}
use Rattle.rs_text.specs.Seen.{sort_named}
use Rattle.std.specs.Str.{bytes_eq}
use Rattle.rs_text.specs.Words.{is_role_word, is_word}
use Rattle.rs_text.specs.Signs.{dot, close_paren, open_paren, Sign, word_sign}
use Rattle.rs_text.proofs.Written.{before_blank, nothing_written, before_mark, before_role, before_word}
use Rattle.rs_text.specs.Writing.{IsWritten}
use Rattle.rs_model.specs.declared.values.Sort.TheVariants as sort
use Rattle.std.proofs.lemmas.Slice.Eq.{bytes_eq-Decides}
use Rattle.rs_text.specs.declared.faults.Wanted.{Wanted}
use Rattle.rs_text.specs.declared.faults.Wanted.TheVariants as wanted

pub sort_pick : (b : Bool) (text : List ℕ) (a s : Sort) (rest : Option Sort) → (b ≡ true → text ≡ sort_text a) → (rest ≡ Some s → sort_text s ≡ text) → (if b then Some a else rest) ≡ Some s
    → sort_text s ≡ text
sort_pick true text a s rest h k e = let same : a ≡ s = cc in ap sort_text (sym same) ∙ sym (h refl)
sort_pick false text a s rest h k e = k e

pub sort_text_is : (text : List ℕ) (s : Sort) → sort_named text ≡ Some s → sort_text s ≡ text
sort_text_is text s e =
    sort_pick (bytes_eq text (codes "unit")) text sort.Unit s _ (λ h. (bytes_eq-Decides text (codes "unit")).0 h)
    (λ e. sort_pick (bytes_eq text (codes "bool")) text sort.Flag s _ (λ h. (bytes_eq-Decides text (codes "bool")).0 h)
    (λ e. sort_pick (bytes_eq text (codes "nat")) text sort.Natural s _ (λ h. (bytes_eq-Decides text (codes "nat")).0 h)
    (λ e. sort_pick (bytes_eq text (codes "int")) text sort.Whole s _ (λ h. (bytes_eq-Decides text (codes "int")).0 h)
    (λ e. sort_pick (bytes_eq text (codes "bytes")) text sort.Octets s _ (λ h. (bytes_eq-Decides text (codes "bytes")).0 h)
    (λ e. sort_pick (bytes_eq text (codes "list")) text sort.Numbers s None (λ h. (bytes_eq-Decides text (codes "list")).0 h) (λ e. cc) e) e) e) e) e) e

pub sort_same : (s : Sort) → sort_or_unit (shown_sort s) ≡ s
sort_same sort.Unit = refl
sort_same sort.Flag = refl
sort_same sort.Natural = refl
sort_same sort.Whole = refl
sort_same sort.Octets = refl
sort_same sort.Numbers = refl

pub sort_is_word : (s : Sort) → is_role_word (sort_text s) ≡ true
sort_is_word sort.Unit = refl
sort_is_word sort.Flag = refl
sort_is_word sort.Natural = refl
sort_is_word sort.Whole = refl
sort_is_word sort.Octets = refl
sort_is_word sort.Numbers = refl

pub closing_written : (behind : List ℕ) → IsWritten (close_paren ∷ dot ∷ []) (codes "). ") behind
closing_written behind =
    before_mark close_paren (dot ∷ []) (codes ")") (codes ". ") behind refl refl
    (before_mark dot [] (codes ".") (codes " ") behind refl refl (before_blank 32 [] [] behind refl (nothing_written behind)))

pub sort_written : (sort : Option Sort) (behind : List ℕ) → IsWritten (sort_signs sort ++ close_paren ∷ dot ∷ []) (shown_text sort ++ codes "). ") behind
sort_written None behind = closing_written behind
sort_written (Some s) behind = before_role (sort_text s) (close_paren ∷ dot ∷ []) (codes "). ") behind (sort_is_word s) refl (closing_written behind)

pub arm_written : (label : List ℕ) (sort : Option Sort) (behind : List ℕ) → is_word label ≡ true → IsWritten (arm_signs label sort) (arm_text label sort) behind
arm_written label sort behind h = before_word label (open_paren ∷ (sort_signs sort ++ close_paren ∷ dot ∷ [])) (codes "(" ++ (shown_text sort ++ codes "). ")) behind h refl
    (before_mark open_paren (sort_signs sort ++ close_paren ∷ dot ∷ []) (codes "(") (shown_text sort ++ codes "). ") behind refl refl (sort_written sort behind))

pub arm_completes : (arm : ArmCut) → (l : List ℕ) × (s : Option Sort) × (rest : List Sign) × (arm_signs l s ≡ arm_cut_signs arm ++ rest)
arm_completes at_label = (codes "x", None, arm_signs (codes "x") None, refl)
arm_completes (behind_label l) = (l, None, open_paren ∷ close_paren ∷ dot ∷ [], refl)
arm_completes (behind_paren l) = (l, None, close_paren ∷ dot ∷ [], refl)
arm_completes (behind_sort l s) = (l, Some s, close_paren ∷ dot ∷ [], refl)
arm_completes (behind_head l s) = (l, s, dot ∷ [], ap (λ z. word_sign l ∷ open_paren ∷ z) (sym (append_assoc (sort_signs s) (close_paren ∷ []) (dot ∷ []))))

-- the places of an arm want one of these, and nothing else
abbrev pub is_in_arm : Wanted → Bool
is_in_arm wanted.Label = true
is_in_arm wanted.OpenParen = true
is_in_arm wanted.SortOrCloseParen = true
is_in_arm wanted.CloseParen = true
is_in_arm wanted.Dot = true
is_in_arm _ = false

arm_wants : (arm : ArmCut) → is_in_arm (wanted_in_arm arm) ≡ true
arm_wants at_label = refl
arm_wants (behind_label l) = refl
arm_wants (behind_paren l) = refl
arm_wants (behind_sort l s) = refl
arm_wants (behind_head l s) = refl

pub arm_not : (arm : ArmCut) (w : Wanted) → is_in_arm w ≡ false → wanted_in_arm arm ≡ w → ⊥
arm_not arm w n h = cc (sym (arm_wants arm) ∙ ap is_in_arm h ∙ n)
