use Rattle.std.proofs.Common.{◌≡◌, drop}
use Rattle.rs_core.specs.Ways.{arm_with}
use Rattle.rs_run_pictures.proofs.acts.arm_with.Given as goal

abbrev pub invariant-loop-arm : goal.invariant-loop-arm
invariant-loop-arm l = arm_with (drop l.arm-index l.arms) l.label ≡ arm_with l.arms l.label
