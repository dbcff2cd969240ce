use Rattle.std.proofs.Common.{length}
use Rattle.rs_demos.proofs.Spelt.{Reads}
use Rattle.rs_demos.proofs.numbers.numbers_of.Given as goal

abbrev pub invariant-loop-left : goal.invariant-loop-left
invariant-loop-left l = Reads l.bytes l.left l.numbers.items

abbrev pub decreases-loop-left : goal.decreases-loop-left
decreases-loop-left l = length l.left
