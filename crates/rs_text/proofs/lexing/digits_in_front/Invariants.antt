use Rattle.std.proofs.Common.{◌≡◌, drop}
use Rattle.rs_text.specs.Lexing.{number_front, number_length}
use Rattle.rs_text.proofs.Values.{number_on}
use Rattle.rs_text.proofs.lexing.digits_in_front.Given as goal

abbrev pub invariant-loop-place : goal.invariant-loop-place
invariant-loop-place l = number_on l.value l.place (drop l.place l.bytes) ≡ number_front l.bytes (number_length l.bytes)
