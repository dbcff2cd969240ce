use Rattle.std.proofs.Common.{◌≡◌, ℕ, ◌+◌, ◌-◌, ◌≤◌, List, length, length-append, drop, drop-drop, false, sym, ap, ◌∙◌, arith}
use Rattle.std.proofs.lemmas.List.{length-drop}
use Rattle.rs_text.specs.Lexing.{length_of_blanks, front, front_of, lexeme_at, next_lexeme}
use Rattle.rs_text.specs.Signs.{Sign}
use Rattle.rs_text.specs.Tokens.{gap_bytes}
use Rattle.rs_text.proofs.Gaps.{Passed, passed}

-- there are no more blanks than bytes
blanks_within : (bytes : List ℕ) → length_of_blanks false bytes ≤ length bytes
blanks_within bytes =
    let p : Passed bytes (length_of_blanks false bytes) = passed bytes in
    let size : length_of_blanks false bytes ≡ length (gap_bytes p.gap) = p.size in
    let all : length bytes ≡ length (gap_bytes p.gap) + length p.behind = ap length p.parts ∙ length-append (gap_bytes p.gap) p.behind in
    omega arith

-- the offset of what stands behind the gap
from_is : (bytes here : List ℕ) (at : ℕ) → at ≤ length bytes → here ≡ drop (length_of_blanks false (drop at bytes)) (drop at bytes)
    → length bytes - length here ≡ at + length_of_blanks false (drop at bytes)
from_is bytes here at within e =
    let left : length (drop at bytes) ≡ length bytes - at = length-drop at bytes in
    let few : length_of_blanks false (drop at bytes) ≤ length (drop at bytes) = blanks_within (drop at bytes) in
    let size : length here ≡ length (drop at bytes) - length_of_blanks false (drop at bytes) = ap length e ∙ length-drop (length_of_blanks false (drop at bytes)) (drop at bytes) in
    omega arith

-- what stands in front behind the gap is the next token
pub next_is : (bytes here : List ℕ) (at size : ℕ) (sign : Sign) → at ≤ length bytes → here ≡ drop (length_of_blanks false (drop at bytes)) (drop at bytes) → front_of here ≡ front sign size
    → record { sign = sign; from = length bytes - length here; until = length bytes - length here + size } ≡ next_lexeme bytes at
next_is bytes here at size sign within e f =
    let from : length bytes - length here ≡ at + length_of_blanks false (drop at bytes) = from_is bytes here at within e in
    let behind : here ≡ drop (at + length_of_blanks false (drop at bytes)) bytes = e ∙ drop-drop (length_of_blanks false (drop at bytes)) at bytes in
    let token : front sign size ≡ front_of (drop (at + length_of_blanks false (drop at bytes)) bytes) = sym f ∙ ap front_of behind in
    ap (λ (z : ℕ). lexeme_at z (front sign size)) from ∙ ap (λ z. lexeme_at (at + length_of_blanks false (drop at bytes)) z) token
