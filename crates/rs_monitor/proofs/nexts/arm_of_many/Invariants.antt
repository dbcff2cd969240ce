use Rattle.std.proofs.Common.{◌≡◌, drop}
use Rattle.rs_monitor.specs.Nexts.{arm_for}
use Rattle.rs_monitor.proofs.nexts.arm_of_many.Given as goal

abbrev pub invariant-loop-arm : goal.invariant-loop-arm
invariant-loop-arm l = arm_for (drop l.arm-index l.arms) l.label l.value ≡ arm_for l.arms l.label l.value
