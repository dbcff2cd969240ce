use Rattle.std.proofs.Common.{◌≡◌, ◌≤◌, length, drop, false}
use Rattle.rs_text.specs.Lexing.{length_of_blanks}
use Rattle.rs_text.proofs.lexing.behind_gap.Given as goal

abbrev pub invariant-loop-rest : goal.invariant-loop-rest
invariant-loop-rest l = (length l.rest ≤ length l.bytes) × (drop (length_of_blanks false l.rest) l.rest ≡ drop (length_of_blanks false l.bytes) l.bytes)

abbrev pub decreases-loop-rest : goal.decreases-loop-rest
decreases-loop-rest l = length l.rest
