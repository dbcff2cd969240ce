use Rattle.std.proofs.Common.{◌≡◌, drop}
use Rattle.rs_core.specs.Ways.{arm_with}
use Rattle.rs_rings.proofs.tables.next_of.Given as goal

abbrev pub invariant-loop-arm : goal.invariant-loop-arm
invariant-loop-arm l = arm_with (drop l.arm-index l.arms) l.fn.label ≡ arm_with l.fn.arms l.fn.label
