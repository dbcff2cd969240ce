-- Public: what readers, printers and laws say of names and their places.
use Rattle.std.specs.Prelude.{◌≡◌, ◌≢◌, ◌<◌, slice_get, ℕ, List, [], Option, Some, None}

-- the name stands at the place and at none before it
pub record StandsFirst (name : List ℕ) (names : List (List ℕ)) (place : ℕ) : Type 0 where
  pub present : slice_get names place ≡ Some name
  pub first : (k : ℕ) → k < place → slice_get names k ≢ Some name

-- the text, where there is one
abbrev pub text_or_none : Option (List ℕ) → List ℕ
text_or_none None = []
text_or_none (Some text) = text

-- the name at a place, or nothing
abbrev pub name_at : List (List ℕ) → ℕ → List ℕ
name_at names k = text_or_none (slice_get names k)
