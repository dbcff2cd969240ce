use Rattle.std.proofs.Common.{◌≡◌, drop}
use Rattle.rs_project.specs.Awaited.{all_on}
use Rattle.rs_project.proofs.surveying.are_all_on.Given as goal

abbrev pub invariant-loop-arm : goal.invariant-loop-arm
invariant-loop-arm l = all_on l.awaited (drop l.arm-index l.arms) ≡ all_on l.awaited l.arms
