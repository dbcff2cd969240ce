-- Steps: how results are printed, one after the other.
use Rattle.std.specs.Prelude.{ℕ, ℤ, List, [], ◌∷◌, ◌++◌}
use Rattle.std.specs.List.{flat_map}
use Rattle.std.specs.Fmt.{signed_decimal}

-- each with a space before it
abbrev pub further_numbers_text : List ℤ → List ℕ
further_numbers_text zs = flat_map (λ (z : ℤ). 32 ∷ signed_decimal z) zs

-- all of them, with a space between each two
abbrev pub joined_text : List ℤ → List ℕ
joined_text [] = []
joined_text (z ∷ zs) = signed_decimal z ++ further_numbers_text zs
