-- Steps: four or eight bytes of a text as one number.
use Rattle.std.specs.Prelude.{ℕ, List, take, drop}
use Rattle.std.specs.Int.{w32, w64, from_le_bytes}

-- the number of the eight bytes from a place on, the first of them lowest
abbrev pub word_at : List ℕ → ℕ → ℕ
word_at bytes place = from_le_bytes w64 (take 8 (drop place bytes))

-- the same of four bytes
abbrev pub half_at : List ℕ → ℕ → ℕ
half_at bytes place = from_le_bytes w32 (take 4 (drop place bytes))
