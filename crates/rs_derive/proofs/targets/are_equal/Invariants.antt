use Rattle.std.proofs.Common.{◌≡◌, length, take}
use Rattle.rs_derive.proofs.targets.are_equal.Given as goal

abbrev pub invariant-loop-i : goal.invariant-loop-i
invariant-loop-i l = (take l.i l.acts ≡ take l.i l.others) × (length l.acts ≡ length l.others)
