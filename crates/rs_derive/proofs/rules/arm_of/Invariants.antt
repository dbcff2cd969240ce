use Rattle.std.proofs.Common.{◌≡◌, drop}
use Rattle.rs_derive.specs.Moves.{arm_of}
use Rattle.rs_derive.proofs.rules.arm_of.Given as goal

abbrev pub invariant-loop-arm : goal.invariant-loop-arm
invariant-loop-arm l = arm_of (drop l.arm-index l.arms) l.label ≡ arm_of l.arms l.label
