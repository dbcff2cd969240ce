use Rattle.std.proofs.Common.{◌≡◌, ◌≤◌, length, take}
use Rattle.rs_grammar.specs.Code.{place_of}
use Rattle.rs_grammar.specs.Steps.{step}
use Rattle.rs_grammar.proofs.reader.takes_on.Given as goal

abbrev pub invariant-loop-height : goal.invariant-loop-height
invariant-loop-height g l = (l.height ≤ length l.stack)
    × (step g.B.Builder.grammar (place_of l.stack) l.token.sign ≡ step g.B.Builder.grammar (place_of (take l.height l.stack)) l.token.sign)

abbrev pub decreases-loop-height : goal.decreases-loop-height
decreases-loop-height g l = l.height
