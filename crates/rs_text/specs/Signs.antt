-- Headline: what the grammars see of a token.
use Rattle.std.specs.Prelude.{ℕ, List, codes, if◌then◌else◌}
use Rattle.std.specs.Str.{bytes_eq}
use Rattle.rs_text.specs.declared.tokens.FaultKind.{FaultKind}

-- the words rec and end, any other word with its bytes, a number with its value, each mark, the end, and a faulty token
pub data Sign : Type 0 where
  rec_word : Sign
  end_word : Sign
  plain : (text : List ℕ) → Sign
  number : (value : ℕ) → Sign
  arrow : Sign
  bang : Sign
  question : Sign
  colon : Sign
  dot : Sign
  comma : Sign
  open_brace : Sign
  close_brace : Sign
  open_paren : Sign
  close_paren : Sign
  open_bracket : Sign
  close_bracket : Sign
  finish : Sign
  broken : (kind : FaultKind) → Sign

-- the sign of a word
abbrev pub word_sign : List ℕ → Sign
word_sign text = if bytes_eq text (codes "rec") then rec_word else if bytes_eq text (codes "end") then end_word else plain text
