use Rattle.std.proofs.Common.{◌≡◌, take}
use Rattle.rs_improve.specs.Swaps.{arms_to}
use Rattle.rs_improve.proofs.swaps.states.arms_to.Given as goal

abbrev pub invariant-loop-i : goal.invariant-loop-i
invariant-loop-i l = l.answer ≡ arms_to (take l.i l.arms) (take l.i l.row)
