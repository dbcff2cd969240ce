use Rattle.std.proofs.Common.{◌≡◌, ◌+◌, drop}
use Rattle.rs_text.specs.Lexing.{word_length}
use Rattle.rs_text.proofs.lexing.short_word_size.Given as goal

abbrev pub invariant-loop-place : goal.invariant-loop-place
invariant-loop-place l = l.place + word_length (drop l.place l.bytes) ≡ word_length l.bytes
