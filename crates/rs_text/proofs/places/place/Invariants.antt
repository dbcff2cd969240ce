use Rattle.std.proofs.Common.{◌≡◌, ◌+◌, ◌≤◌}
use Rattle.rs_text.specs.Places.{line_of, column_of}
use Rattle.rs_text.proofs.places.place.Given as goal

abbrev pub invariant-loop-byte : goal.invariant-loop-byte
invariant-loop-byte l = (l.line ≡ line_of l.before l.byte-index) × (l.column ≡ column_of l.before l.byte-index) × (l.column ≤ 1 + l.byte-index)
