-- Headline: tokens with their places, as the grammars see them.
use Rattle.std.specs.Prelude.{ℕ, ◌+◌, ◌-◌, ◌*◌, List, [], ◌∷◌, map, Bool, true, false}
use Rattle.rs_text.specs.Signs.{Sign, finish, broken}

-- a token: its sign, and the offsets where it begins and ends
pub record Lexeme : Type 0 where
  pub sign : Sign
  pub from : ℕ
  pub until : ℕ

-- what the grammars see of tokens
abbrev pub signs_of : List Lexeme → List Sign
signs_of lexemes = map (λ l. l.sign) lexemes

-- nothing is read behind the end or a faulty token
abbrev pub is_last : Sign → Bool
is_last finish = true
is_last (broken kind) = true
is_last _ = false

-- the value of a number with further digits behind it
abbrev pub value_behind : ℕ → List ℕ → ℕ
value_behind value [] = value
value_behind value (b ∷ bs) = value_behind (value * 10 + (b - 48)) bs

-- the value of decimal digits
abbrev pub value_of : List ℕ → ℕ
value_of digits = value_behind 0 digits
