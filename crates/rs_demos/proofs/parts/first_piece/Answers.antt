use Rattle.std.proofs.Common.{sym, arith}
use Rattle.std.proofs.lemmas.List.{take_all}
use Rattle.rs_demos.proofs.parts.first_piece.Goals as goal

pub returns-then-bytes-lt-PIECE_BYTES : goal.returns-then-bytes-lt-PIECE_BYTES
returns-then-bytes-lt-PIECE_BYTES c = sym (take_all 4096 c.args.bytes.now (omega arith))
