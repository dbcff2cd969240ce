-- A line and a column are at most one more than the offset.
use Rattle.std.proofs.Common.{ℕ, ◌+◌, ◌≤◌, List, length, take, not, ◌==◌, arith}
use Rattle.std.proofs.lemmas.List.{length-take-le}
use Rattle.std.proofs.lemmas.List.Sums.{count_by-le-length, suffix_len-le-length}
use Rattle.rs_text.specs.Places.{line_of, column_of}

pub line_within : (bytes : List ℕ) (offset : ℕ) → offset ≤ length bytes → line_of bytes offset ≤ 1 + offset
line_within bytes offset h =
    let n = length-take-le offset bytes h in
    let k = count_by-le-length (λ b. b == 10) (take offset bytes) in
    omega arith

pub column_within : (bytes : List ℕ) (offset : ℕ) → offset ≤ length bytes → column_of bytes offset ≤ 1 + offset
column_within bytes offset h =
    let n = length-take-le offset bytes h in
    let k = suffix_len-le-length (λ b. not (b == 10)) (take offset bytes) in
    omega arith
