-- One step of the look for a label that stands twice.
use Rattle.std.proofs.Common.{◌≡◌, ℕ, ◌+◌, ◌<◌, List, length, get_or, take, drop, cond, true, false, ◌==◌, Some, sym, ap, ◌∙◌, add-one, drop-cons}
use Rattle.std.proofs.lemmas.List.{take_more}
use Rattle.std.proofs.lemmas.Bool.{cond-true, cond-false}
use Rattle.std.specs.List.{list_any}
use Rattle.rs_model.specs.Repeats.{first_repeat}
use Rattle.rs_model.specs.declared.graph.Arm.{Arm}

pub repeat_step : (arms : List Arm) (i : ℕ) (d : Arm) → i < length arms
    → first_repeat (drop i arms) (take i arms)
    ≡ cond (list_any (λ b. b.label.0 == (get_or arms i d).label.0) (take i arms))
    (Some (get_or arms i d).label) (first_repeat (drop (i + 1) arms) (take (i + 1) arms))
repeat_step arms i d h = rw (take_more arms i d h, add-one i) (ap (λ x. first_repeat x (take i arms)) (drop-cons arms i d h))

-- the arm at the place has a label that stands before it
pub repeat_here : (arms earlier : List Arm) (i : ℕ) (d : Arm) → i < length arms → earlier ≡ take i arms
    → list_any (λ b. b.label.0 == (get_or arms i d).label.0) earlier ≡ true
    → first_repeat (drop i arms) (take i arms) ≡ Some (get_or arms i d).label
repeat_here arms earlier i d h e t = repeat_step arms i d h ∙ cond-true _ _ _ (ap (λ x. list_any (λ b. b.label.0 == (get_or arms i d).label.0) x) (sym e) ∙ t)

-- it has a new one
pub repeat_on : (arms earlier : List Arm) (i : ℕ) (d : Arm) → i < length arms → earlier ≡ take i arms
    → list_any (λ b. b.label.0 == (get_or arms i d).label.0) earlier ≡ false
    → first_repeat (drop i arms) (take i arms) ≡ first_repeat (drop (i + 1) arms) (take (i + 1) arms)
repeat_on arms earlier i d h e t = repeat_step arms i d h ∙ cond-false _ _ _ (ap (λ x. list_any (λ b. b.label.0 == (get_or arms i d).label.0) x) (sym e) ∙ t)
