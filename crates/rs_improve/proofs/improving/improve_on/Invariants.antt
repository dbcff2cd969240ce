use Rattle.std.proofs.Common.{◌-◌}
use Rattle.rs_improve.specs.Attempts.{IsSwappedSoFar}
use Rattle.rs_derive.specs.Derivations.{IsProper}
use Rattle.rs_improve.proofs.improving.improve_on.Given as goal

abbrev pub invariant-loop-derivation : goal.invariant-loop-derivation
invariant-loop-derivation l = IsSwappedSoFar l.above l.bound l.asked l.swaps l.machine l.derivation × IsProper l.above

abbrev pub decreases-loop-derivation : goal.decreases-loop-derivation
decreases-loop-derivation l = l.asked - l.swaps
