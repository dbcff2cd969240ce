use Rattle.std.proofs.Common.{◌≡◌, drop}
use Rattle.rs_partings.specs.Searching.{arm_toward}
use Rattle.rs_partings.proofs.searching.arm_toward.Given as goal

abbrev pub invariant-loop-place : goal.invariant-loop-place
invariant-loop-place l = arm_toward l.flags l.place (drop l.place l.arms) ≡ arm_toward l.flags 0 l.arms
