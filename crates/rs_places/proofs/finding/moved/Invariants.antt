use Rattle.std.proofs.Common.{◌≡◌, ◌≤◌, ◌+◌}
use Rattle.rs_text.specs.Places.{line_of, column_of}
use Rattle.rs_places.proofs.finding.moved.Given as goal

abbrev pub invariant-loop-offset : goal.invariant-loop-offset
invariant-loop-offset l = (l.line ≡ line_of l.bytes l.offset) × (l.column ≡ column_of l.bytes l.offset) × (l.line ≤ 1 + l.offset) × (l.column ≤ 1 + l.offset)
