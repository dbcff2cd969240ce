use Rattle.std.proofs.Common.{◌≡◌, map, take}
use Rattle.rs_model.specs.declared.graph.Arm.{Arm}
use Rattle.rs_improve.specs.declared.swaps.SwappedState.TheVariants.{Old}
use Rattle.rs_improve.proofs.swaps.states.old_nexts.Given as goal

abbrev pub invariant-loop-arm : goal.invariant-loop-arm
invariant-loop-arm l = l.nexts.items ≡ map (λ (a : Arm). Old a.next) (take l.arm-index l.arms)
