-- Public: which token it is.
use Rattle.std.specs.Prelude.{ℕ, List, Option, Some, None, Bool, true, false}
use Rattle.rs_text.specs.Seen.{is_text, plain_text}
use Rattle.rs_text.specs.Signs.{Sign, end_word, number, colon, comma, open_brace, close_brace, open_bracket, close_bracket}

-- that word
abbrev pub is_keyword : List ℕ → Sign → Bool
is_keyword word t = is_text word (plain_text t)

-- the word end
abbrev pub is_end : Sign → Bool
is_end end_word = true
is_end _ = false

-- the value of a number
abbrev pub number_value : Sign → Option ℕ
number_value (number n) = Some n
number_value _ = None

-- a colon
abbrev pub is_colon : Sign → Bool
is_colon colon = true
is_colon _ = false

-- a comma
abbrev pub is_comma : Sign → Bool
is_comma comma = true
is_comma _ = false

-- an open brace
abbrev pub is_open_brace : Sign → Bool
is_open_brace open_brace = true
is_open_brace _ = false

-- a close brace
abbrev pub is_close_brace : Sign → Bool
is_close_brace close_brace = true
is_close_brace _ = false

-- an open bracket
abbrev pub is_open_bracket : Sign → Bool
is_open_bracket open_bracket = true
is_open_bracket _ = false

-- a close bracket
abbrev pub is_close_bracket : Sign → Bool
is_close_bracket close_bracket = true
is_close_bracket _ = false
