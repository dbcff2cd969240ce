use Rattle.std.proofs.Common.{◌≡◌, map, take}
use Rattle.rs_improve.specs.Swaps.{arm_numbers}
use Rattle.rs_improve.specs.declared.swaps.SwappedState.TheVariants.{New}
use Rattle.rs_improve.proofs.swaps.states.new_nexts.Given as goal

abbrev pub invariant-loop-send : goal.invariant-loop-send
invariant-loop-send l = l.nexts.items ≡ map New (arm_numbers 0 (take l.send l.puts))
