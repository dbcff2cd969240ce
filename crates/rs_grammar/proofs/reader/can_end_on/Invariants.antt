use Rattle.std.proofs.Common.{◌≡◌, ◌≤◌, length, take}
use Rattle.rs_grammar.specs.Code.{place_of}
use Rattle.rs_grammar.specs.Places.{can_end}
use Rattle.rs_grammar.proofs.reader.can_end_on.Given as goal

abbrev pub invariant-loop-height : goal.invariant-loop-height
invariant-loop-height g l = (l.height ≤ length l.stack) × (can_end g.B.Builder.grammar (place_of l.stack) ≡ can_end g.B.Builder.grammar (place_of (take l.height l.stack)))

abbrev pub decreases-loop-height : goal.decreases-loop-height
decreases-loop-height g l = l.height
