-- Public: how printers write sorts and arms.
use Rattle.std.specs.Prelude.{ℕ, List, [], ◌++◌, codes, Option, Some, None}
use Rattle.rs_model.specs.declared.values.Sort.{Sort}
use Rattle.rs_model.specs.declared.values.Sort.TheVariants as sort
use Rattle.rs_text.specs.Arms.{sort_text}

-- the unit isn't written
abbrev pub shown_sort : Sort → Option Sort
shown_sort sort.Unit = None
shown_sort s = Some s

-- nothing stands in the parentheses where no sort is shown
abbrev pub shown_text : Option Sort → List ℕ
shown_text None = []
shown_text (Some s) = sort_text s

-- `label(sort). `
abbrev pub arm_text : List ℕ → Option Sort → List ℕ
arm_text label sort = label ++ (codes "(" ++ (shown_text sort ++ codes "). "))
