-- The lines of acts, one act more.
use Rattle.std.proofs.Common.{◌≡◌, ℕ, zero, suc, ◌+◌, List, [], ◌∷◌, ◌++◌, drop, Option, Some, None, slice_get, slice_index_or, length, ◌<◌, append_assoc, refl, sym, ap, ◌∙◌, arith}
use Rattle.rs_model.specs.Data.{Names_data}
use Rattle.rs_run_pictures.specs.Lines.{act_text, acts_text}
use Rattle.rs_run_pictures.specs.declared.scenes.DrawnAct.{DrawnAct}

one_more : (n : ℕ) → n + 1 ≡ suc n
one_more n = omega arith

some_is : {A : Type 0} (x y : A) → Some x ≡ Some y → x ≡ y
some_is x y e = cc

got : {A : Type 0} (xs : List A) (k : ℕ) (d : A) → k < length xs → slice_get xs k ≡ Some (slice_index_or xs k d)
got [] k d low = absurd (omega arith)
got (x ∷ xs) zero d low = refl
got (x ∷ xs) (suc k) d low = got xs k d (omega arith)

acts_on : (names : Names_data) (before : Option DrawnAct) (k : ℕ) (acts : List DrawnAct) (a : DrawnAct) → slice_get acts k ≡ Some a
    → acts_text names before (drop k acts) ≡ act_text names before a (slice_get acts (suc k)) ++ acts_text names (Some a) (drop (suc k) acts)
acts_on names before zero [] a e = absurd (cc e)
acts_on names before (suc k) [] a e = absurd (cc e)
acts_on names before zero (x ∷ acts) a e = ap (λ z. act_text names before z (slice_get acts 0) ++ acts_text names (Some z) acts) (some_is x a e)
acts_on names before (suc k) (x ∷ acts) a e = acts_on names before k acts a e

-- the lines of the act at this place, and of the later ones
pub acts_behind : (names : Names_data) (before : Option DrawnAct) (k : ℕ) (acts : List DrawnAct) (d : DrawnAct) (next : Option DrawnAct) (old new : List ℕ) → k < length acts
    → next ≡ slice_get acts (k + 1) → new ≡ old ++ act_text names before (slice_index_or acts k d) next
    → new ++ acts_text names (Some (slice_index_or acts k d)) (drop (k + 1) acts) ≡ old ++ acts_text names before (drop k acts)
acts_behind names before k acts d next old new low n h =
    let a = slice_index_or acts k d in
    rw (one_more k) (
    ap (λ z. z ++ acts_text names (Some a) (drop (suc k) acts)) (h ∙ ap (λ z. old ++ act_text names before a z) (n ∙ ap (slice_get acts) (one_more k)))
    ∙ append_assoc old (act_text names before a (slice_get acts (suc k))) (acts_text names (Some a) (drop (suc k) acts))
    ∙ ap (λ z. old ++ z) (sym (acts_on names before k acts a (got acts k d low))))
