-- Public: texts that are put together of pieces.
use Rattle.std.specs.Prelude.{ℕ, List}
use Rattle.std.specs.Fmt.{decimal}
use Rattle.std.specs.List.{flat_map}
use Rattle.rs_answers.specs.declared.texts.Piece.{Piece}
use Rattle.rs_answers.specs.declared.texts.Piece.TheVariants as piece

-- the bytes of a piece
abbrev pub piece_bytes : Piece → List ℕ
piece_bytes (piece.Words text) = text.now
piece_bytes (piece.Number n) = decimal n

-- the pieces, one after the other
abbrev pub pieces_text : List Piece → List ℕ
pieces_text pieces = flat_map piece_bytes pieces

-- texts, one after the other
abbrev pub joined_texts : List (List ℕ) → List ℕ
joined_texts texts = flat_map (λ text. text) texts
