use Rattle.std.proofs.Common.{◌≡◌, drop}
use Rattle.rs_project.specs.Clashes.{has_all}
use Rattle.rs_project.proofs.clashes.has_all.Given as goal

abbrev pub invariant-loop-arm : goal.invariant-loop-arm
invariant-loop-arm l = has_all l.theirs (drop l.arm-index l.ours) ≡ has_all l.theirs l.ours
