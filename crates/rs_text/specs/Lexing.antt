-- Public: the tokens of a text, cut off from its front one by one. A law says that they are its tokens.
use Rattle.std.specs.Prelude.{◌≡◌, ℕ, suc, ◌+◌, ◌-◌, List, [], ◌∷◌, drop, take, nat_lt, if◌then◌else◌, ◌==◌, Bool, true, false}
use Rattle.std.specs.List.{prefix_len}
use Rattle.rs_model.specs.declared.limits.TheConstants.{MOST_NAME_BYTES, MOST_NUMBER}
use Rattle.rs_text.specs.declared.tokens.TokenFault.{TokenFault}
use Rattle.rs_text.specs.declared.tokens.FaultKind.TheVariants as fault
use Rattle.rs_text.specs.declared.tokens.TokenKind.{TokenKind}
use Rattle.rs_text.specs.declared.tokens.TokenKind.TheVariants as kind
use Rattle.rs_text.specs.declared.tokens.Token.{Token}
use Rattle.rs_text.specs.Bytes.{is_blank, is_letter, is_digit, is_word_byte}
use Rattle.rs_text.specs.Lexemes.{Lexeme, value_of, is_last}
use Rattle.rs_text.specs.Signs.{Sign, number, arrow, bang, question, colon, dot, comma, open_brace, close_brace, open_paren, close_paren, open_bracket, close_bracket, finish, broken, word_sign}

-- how many bytes in front are blanks and comments; the flag says that a comment is open
abbrev pub length_of_blanks : Bool → List ℕ → ℕ
length_of_blanks comment [] = 0
length_of_blanks false (b ∷ bs) = if is_blank b then suc (length_of_blanks false bs) else if b == 35 then suc (length_of_blanks true bs) else 0
length_of_blanks true (b ∷ bs) = suc (length_of_blanks (if b == 10 then false else true) bs)

-- how many bytes in front are of a word
abbrev pub word_length : List ℕ → ℕ
word_length bytes = prefix_len is_word_byte bytes

-- how many bytes in front are digits
abbrev pub number_length : List ℕ → ℕ
number_length bytes = prefix_len is_digit bytes

-- a sign, and how many bytes it takes up. A faulty token and the end take up none
pub record SizedSign : Type 0 where
  pub sign : Sign
  pub size : ℕ

-- a sign with its size
abbrev pub front : Sign → ℕ → SizedSign
front sign size = record { sign = sign; size = size }

-- the word of the first n bytes
abbrev pub word_front : List ℕ → ℕ → SizedSign
word_front bytes n = if nat_lt MOST_NAME_BYTES n then front (broken fault.NameTooLong) 0 else front (word_sign (take n bytes)) n

-- the number of the first n bytes
abbrev pub number_front : List ℕ → ℕ → SizedSign
number_front bytes n = if nat_lt MOST_NUMBER (value_of (take n bytes)) then front (broken fault.NumberTooLarge) 0 else front (number (value_of (take n bytes))) n

-- behind a first -
abbrev pub arrow_front : List ℕ → SizedSign
arrow_front [] = front (broken fault.BadByte) 0
arrow_front (b ∷ bs) = if b == 62 then front arrow 2 else front (broken fault.BadByte) 0

-- a mark of one byte
abbrev pub mark_front : ℕ → SizedSign
mark_front b =
    if b == 33 then front bang 1
    else if b == 63 then front question 1
    else if b == 58 then front colon 1
    else if b == 46 then front dot 1
    else if b == 44 then front comma 1
    else if b == 123 then front open_brace 1
    else if b == 125 then front close_brace 1
    else if b == 40 then front open_paren 1
    else if b == 41 then front close_paren 1
    else if b == 91 then front open_bracket 1
    else if b == 93 then front close_bracket 1
    else front (broken fault.BadByte) 0

-- the token in front of the bytes
abbrev pub front_of : List ℕ → SizedSign
front_of [] = front finish 0
front_of (b ∷ bs) =
    if is_letter b then word_front (b ∷ bs) (word_length (b ∷ bs))
    else if is_digit b then number_front (b ∷ bs) (number_length (b ∷ bs))
    else if b == 45 then arrow_front bs
    else mark_front b

-- what stands in front, at its offset
abbrev pub lexeme_at : ℕ → SizedSign → Lexeme
lexeme_at from f = record { sign = f.sign; from = from; until = from + f.size }

-- the next token from an offset on: blanks and comments are passed over
abbrev pub next_lexeme : List ℕ → ℕ → Lexeme
next_lexeme bytes at = let from = at + length_of_blanks false (drop at bytes) in lexeme_at from (front_of (drop from bytes))

-- the bytes from `at` on, cut into tokens as far as the end or the first faulty one
abbrev pub Lexed : List ℕ → ℕ → List Lexeme → Type 0
Lexed bytes at [] = ⊥
Lexed bytes at (l ∷ ls) = (l ≡ next_lexeme bytes at) × (is_last l.sign ≡ true → ls ≡ []) × (is_last l.sign ≡ false → Lexed bytes l.until ls)

-- the sign of a token with this text
abbrev pub sign_of : TokenKind → List ℕ → Sign
sign_of kind.Word text = word_sign text
sign_of kind.Number text = number (value_of text)
sign_of kind.Arrow text = arrow
sign_of kind.Bang text = bang
sign_of kind.Question text = question
sign_of kind.Colon text = colon
sign_of kind.Dot text = dot
sign_of kind.Comma text = comma
sign_of kind.OpenBrace text = open_brace
sign_of kind.CloseBrace text = close_brace
sign_of kind.OpenParen text = open_paren
sign_of kind.CloseParen text = close_paren
sign_of kind.OpenBracket text = open_bracket
sign_of kind.CloseBracket text = close_bracket
sign_of kind.Finish text = finish

-- the text of a token
abbrev pub text_of : List ℕ → Token → List ℕ
text_of bytes token = take (token.until - token.from) (drop token.from bytes)

-- what a token of the lexer stands for
abbrev pub lexeme_of : List ℕ → Token → Lexeme
lexeme_of bytes token = record { sign = sign_of token.kind (text_of bytes token); from = token.from; until = token.until }

-- what a fault of the lexer stands for
abbrev pub broken_at : TokenFault → Lexeme
broken_at f = record { sign = broken f.kind; from = f.at; until = f.at }
