-- Headline: what an arm of a protocol or of a machine looks like in a text.
use Rattle.std.specs.Prelude.{ℕ, List, [], ◌∷◌, ◌++◌, codes, Option, Some, None}
use Rattle.rs_model.specs.declared.values.Sort.{Sort}
use Rattle.rs_model.specs.declared.values.Sort.TheVariants as sort
use Rattle.rs_text.specs.Signs.{Sign, plain, dot, open_paren, close_paren, word_sign}

-- the word for a sort
abbrev pub sort_text : Sort → List ℕ
sort_text sort.Unit = codes "unit"
sort_text sort.Flag = codes "bool"
sort_text sort.Natural = codes "nat"
sort_text sort.Whole = codes "int"
sort_text sort.Octets = codes "bytes"
sort_text sort.Numbers = codes "list"

-- what stands in the parentheses: a sort, or nothing for the unit
abbrev pub sort_signs : Option Sort → List Sign
sort_signs None = []
sort_signs (Some s) = plain (sort_text s) ∷ []

-- LABEL "(" [ sort ] ")" "."
abbrev pub arm_signs : List ℕ → Option Sort → List Sign
arm_signs label sort = word_sign label ∷ open_paren ∷ (sort_signs sort ++ close_paren ∷ dot ∷ [])

-- the sort that is meant
abbrev pub sort_or_unit : Option Sort → Sort
sort_or_unit None = sort.Unit
sort_or_unit (Some s) = s
