use Rattle.std.proofs.Common.{◌≡◌, [], drop, take}
use Rattle.rs_model.specs.Repeats.{first_repeat}
use Rattle.rs_model.proofs.checks.first_repeat.Given as goal

abbrev pub invariant-loop-i : goal.invariant-loop-i
invariant-loop-i l = first_repeat (drop l.i l.arms) (take l.i l.arms) ≡ first_repeat l.arms []
