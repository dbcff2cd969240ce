-- Public: numbers, one for each ordered pair of roles, as rows of a table; and how they are counted up.
use Rattle.std.specs.Prelude.{ℕ, ◌+◌, ◌<◌, ◌^◌, length, List, [], Option, Some, None, slice_index_or, slice_set}
use Rattle.rs_model.specs.declared.graph.Role.{Role}

-- the number for the pair
abbrev pub count_for_pair : List (List ℕ) → ℕ → ℕ → ℕ
count_for_pair rows p q = slice_index_or (slice_index_or rows p []) q 0

-- the table, with one more for the pair
abbrev pub with_one_more : List (List ℕ) → ℕ → ℕ → List (List ℕ)
with_one_more rows p q = slice_set rows p (slice_set (slice_index_or rows p []) q (count_for_pair rows p q + 1))

-- the counts with one more for the pair that is given, if one is
abbrev pub counts_behind : List (List ℕ) → Option (Role × Role) → List (List ℕ)
counts_behind rows None = rows
counts_behind rows (Some pair) = with_one_more rows pair.0.0 pair.1.0

-- there is such a pair in the table, and its number isn't at its last value
abbrev pub CanCount : List (List ℕ) → Option (Role × Role) → Type 0
CanCount rows None = Unit {0}
CanCount rows (Some pair) =
    (pair.0.0 < length rows) × (pair.1.0 < length (slice_index_or rows pair.0.0 [])) × (count_for_pair rows pair.0.0 pair.1.0 < 2 ^ 63)
