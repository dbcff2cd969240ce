-- Headline: names by their places, and names that recursions bind.
use Rattle.std.specs.Prelude.{ℕ, Bool, true, false, suc, List, [], ◌∷◌, ◌++◌, Option, Some, None, if◌then◌else◌}
use Rattle.std.specs.List.{list_any}
use Rattle.std.specs.Str.{bytes_eq}

-- the first place of a name, counted from n
abbrev pub place_from : ℕ → List ℕ → List (List ℕ) → Option ℕ
place_from n name [] = None
place_from n name (x ∷ xs) = if bytes_eq x name then Some n else place_from (suc n) name xs

-- the first place of a name among names, from 0
abbrev pub place_of : List ℕ → List (List ℕ) → Option ℕ
place_of name names = place_from 0 name names

-- the name is one of these
abbrev pub is_among : List ℕ → List (List ℕ) → Bool
is_among name names = list_any (λ x. bytes_eq x name) names

-- the names with further ones behind them, in order of their first places
abbrev pub names_with : List (List ℕ) → List (List ℕ) → List (List ℕ)
names_with names [] = names
names_with names (x ∷ xs) = names_with (if is_among x names then names else names ++ x ∷ []) xs

-- the recursion names round a place, the nearest first, each with a number
abbrev pub BoundNames : Type 0
BoundNames = List (List ℕ × ℕ)

-- the number of the nearest one of a name
abbrev pub nearest_binding : List ℕ → BoundNames → Option ℕ
nearest_binding name [] = None
nearest_binding name (b ∷ bs) = if bytes_eq b.0 name then Some b.1 else nearest_binding name bs

-- the number, where there is one
abbrev pub number_or : Option ℕ → ℕ
number_or None = 0
number_or (Some n) = n

-- no name stands twice
abbrev pub differ : List (List ℕ) → Bool
differ [] = true
differ (x ∷ xs) = if is_among x xs then false else differ xs
