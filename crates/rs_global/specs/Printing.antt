-- Steps: how the roles line is written.
use Rattle.std.specs.Prelude.{ℕ, List, ◌++◌, codes}
use Rattle.std.specs.List.{flat_map}

-- further names, each behind a comma
abbrev pub further_names_text : List (List ℕ) → List ℕ
further_names_text names = flat_map (λ name. codes ", " ++ name) names
