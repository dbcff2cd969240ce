use Rattle.std.proofs.Common.{◌≡◌, drop}
use Rattle.rs_walk_texts.specs.OneWay.{any_on}
use Rattle.rs_walk_texts.proofs.oneway.any_on.Given as goal

abbrev pub invariant-loop-arm : goal.invariant-loop-arm
invariant-loop-arm l = any_on l.flags (drop l.arm-index l.arms) ≡ any_on l.flags l.arms
