-- Public: what contracts see of the types with private fields.
use Rattle.std.specs.Prelude.{ℕ, List}

-- the whole text, and the offset from which the next token is looked for
pub record Lexer_data : Type 0 where
  pub bytes : List ℕ
  pub at : ℕ
