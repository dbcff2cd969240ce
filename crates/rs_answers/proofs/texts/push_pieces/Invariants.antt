use Rattle.std.proofs.Common.{◌≡◌, ◌++◌, take}
use Rattle.rs_answers.specs.Texts.{pieces_text}
use Rattle.rs_answers.proofs.texts.push_pieces.Given as goal

abbrev pub invariant-loop-piece : goal.invariant-loop-piece
invariant-loop-piece l = l.text ≡ l.fn.text ++ pieces_text (take l.piece-index l.pieces)
