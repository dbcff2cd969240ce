-- Steps: what a byte begins.
use Rattle.std.specs.Prelude.{ℕ, ◌+◌, List, ◌==◌, ◌||◌, if◌then◌else◌}
use Rattle.rs_text.specs.Bytes.{is_blank, is_letter, is_digit}
use Rattle.rs_text.specs.Lexing.{SizedSign, front, word_front, word_length, number_front, number_length, arrow_front}
use Rattle.rs_text.specs.Signs.{bang, question, colon, dot, comma, open_brace, close_brace, open_paren, close_paren, open_bracket, close_bracket, broken}
use Rattle.rs_text.specs.declared.tokens.FaultKind.TheVariants as fault
use Rattle.rs_text.specs.declared.byte_kinds.ByteKind.{ByteKind}
use Rattle.rs_text.specs.declared.byte_kinds.ByteKind.TheVariants as kind

-- what the byte begins
abbrev pub kind_of : ℕ → ByteKind
kind_of b =
    if is_letter b then kind.Letter
    else if is_digit b then kind.Digit
    else if b == 45 then kind.Dash
    else if b == 33 then kind.Bang
    else if b == 63 then kind.Question
    else if b == 58 then kind.Colon
    else if b == 46 then kind.Dot
    else if b == 44 then kind.Comma
    else if b == 123 then kind.OpenBrace
    else if b == 125 then kind.CloseBrace
    else if b == 40 then kind.OpenParen
    else if b == 41 then kind.CloseParen
    else if b == 91 then kind.OpenBracket
    else if b == 93 then kind.CloseBracket
    else if is_blank b || (b == 35) then kind.Gap
    else kind.Other

-- the token in front of the bytes, where their first byte is of this kind and these stand behind it
abbrev pub front_by : ByteKind → (bytes behind : List ℕ) → SizedSign
front_by kind.Letter bytes behind = word_front bytes (1 + word_length behind)
front_by kind.Digit bytes behind = number_front bytes (number_length bytes)
front_by kind.Dash bytes behind = arrow_front behind
front_by kind.Bang bytes behind = front bang 1
front_by kind.Question bytes behind = front question 1
front_by kind.Colon bytes behind = front colon 1
front_by kind.Dot bytes behind = front dot 1
front_by kind.Comma bytes behind = front comma 1
front_by kind.OpenBrace bytes behind = front open_brace 1
front_by kind.CloseBrace bytes behind = front close_brace 1
front_by kind.OpenParen bytes behind = front open_paren 1
front_by kind.CloseParen bytes behind = front close_paren 1
front_by kind.OpenBracket bytes behind = front open_bracket 1
front_by kind.CloseBracket bytes behind = front close_bracket 1
front_by _ bytes behind = front (broken fault.BadByte) 0
