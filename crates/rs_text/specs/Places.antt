-- Public: lines and columns, both from 1.
use Rattle.std.specs.Prelude.{ℕ, List, ◌+◌, ◌==◌, not, take}
use Rattle.std.specs.List.{count_by, suffix_len}

-- one more than the count of LF bytes before the offset
abbrev pub line_of : List ℕ → ℕ → ℕ
line_of bytes offset = 1 + count_by (λ b. b == 10) (take offset bytes)

-- one more than the count of bytes between the last LF before the offset, or the start, and the offset
abbrev pub column_of : List ℕ → ℕ → ℕ
column_of bytes offset = 1 + suffix_len (λ b. not (b == 10)) (take offset bytes)
