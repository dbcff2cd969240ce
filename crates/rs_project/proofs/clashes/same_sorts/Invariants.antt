use Rattle.std.proofs.Common.{◌≡◌, drop}
use Rattle.rs_project.specs.Clashes.{same_sorts}
use Rattle.rs_project.proofs.clashes.same_sorts.Given as goal

abbrev pub invariant-loop-arm : goal.invariant-loop-arm
invariant-loop-arm l = same_sorts l.theirs (drop l.arm-index l.ours) ≡ same_sorts l.theirs l.ours
