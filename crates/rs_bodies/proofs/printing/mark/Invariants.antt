use Rattle.std.proofs.Common.{◌≡◌, drop}
use Rattle.rs_bodies.specs.Printing.{flags_behind_arms}
use Rattle.rs_bodies.proofs.printing.mark.Given as goal

abbrev pub invariant-loop-arm : goal.invariant-loop-arm
invariant-loop-arm l = flags_behind_arms l.number (drop l.arm-index l.arms) l.flags ≡ flags_behind_arms l.fn.number l.fn.arms l.fn.flags
