-- Public: where an arm may be cut off, and what is wanted there.
use Rattle.std.specs.Prelude.{ℕ, List, [], ◌∷◌, ◌++◌, Option}
use Rattle.rs_model.specs.declared.values.Sort.{Sort}
use Rattle.rs_text.specs.Arms.{sort_text, sort_signs}
use Rattle.rs_text.specs.Signs.{Sign, plain, open_paren, close_paren, word_sign}
use Rattle.rs_text.specs.declared.faults.Wanted.{Wanted}
use Rattle.rs_text.specs.declared.faults.Wanted.TheVariants as wanted

-- an arm as far as its body, cut off at a place
pub data ArmCut : Type 0 where
  at_label : ArmCut
  behind_label : (label : List ℕ) → ArmCut
  behind_paren : (label : List ℕ) → ArmCut
  behind_sort : (label : List ℕ) → (sort : Sort) → ArmCut
  behind_head : (label : List ℕ) → (sort : Option Sort) → ArmCut

-- the tokens of an arm before the place
abbrev pub arm_cut_signs : ArmCut → List Sign
arm_cut_signs at_label = []
arm_cut_signs (behind_label l) = word_sign l ∷ []
arm_cut_signs (behind_paren l) = word_sign l ∷ open_paren ∷ []
arm_cut_signs (behind_sort l s) = word_sign l ∷ open_paren ∷ plain (sort_text s) ∷ []
arm_cut_signs (behind_head l s) = word_sign l ∷ open_paren ∷ (sort_signs s ++ close_paren ∷ [])

-- what is wanted at the place
abbrev pub wanted_in_arm : ArmCut → Wanted
wanted_in_arm at_label = wanted.Label
wanted_in_arm (behind_label l) = wanted.OpenParen
wanted_in_arm (behind_paren l) = wanted.SortOrCloseParen
wanted_in_arm (behind_sort l s) = wanted.CloseParen
wanted_in_arm (behind_head l s) = wanted.Dot
