-- Public: texts that are written for given tokens.
use Rattle.std.specs.Prelude.{◌≡◌, ℕ, List, [], ◌∷◌, ◌++◌, true, false}
use Rattle.std.specs.List.{flat_map}
use Rattle.rs_text.specs.Bytes.{is_blank}
use Rattle.rs_text.specs.Lexemes.{is_last}
use Rattle.rs_text.specs.Signs.{Sign}
use Rattle.rs_text.specs.Tokens.{IsToken}

-- a piece of a text: a blank, or a token with its sign and its bytes
pub data TextPiece : Type 0 where
  blank : (byte : ℕ) → TextPiece
  token : (sign : Sign) → (text : List ℕ) → TextPiece

-- the bytes of a piece
abbrev pub piece_text : TextPiece → List ℕ
piece_text (blank byte) = byte ∷ []
piece_text (token sign text) = text

-- the tokens of a piece: one or none
abbrev pub piece_signs : TextPiece → List Sign
piece_signs (blank byte) = []
piece_signs (token sign text) = sign ∷ []

-- blanks are blanks, and each token is one before what stands behind it: the further pieces, and `behind`
abbrev pub ArePieces : List TextPiece → (behind : List ℕ) → Type 0
ArePieces [] behind = Unit {0}
ArePieces (blank byte ∷ pieces) behind = (is_blank byte ≡ true) × ArePieces pieces behind
ArePieces (token sign text ∷ pieces) behind = IsToken sign text (flat_map piece_text pieces ++ behind) × (is_last sign ≡ false) × ArePieces pieces behind

-- where `behind` stands behind it, the text is written for tokens with these signs. Blanks may stand before, between and
-- behind them; between two words there has to be one, since each is a token before what stands behind it
pub record IsWritten (signs : List Sign) (text behind : List ℕ) : Type 0 where
  pub pieces : List TextPiece
  pub right : ArePieces pieces behind
  pub spelt : flat_map piece_signs pieces ≡ signs
  pub put : flat_map piece_text pieces ≡ text
