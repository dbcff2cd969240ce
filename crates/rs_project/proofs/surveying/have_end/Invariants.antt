use Rattle.std.proofs.Common.{◌≡◌, drop}
use Rattle.rs_project.specs.Marks.{have_end}
use Rattle.rs_project.proofs.surveying.have_end.Given as goal

abbrev pub invariant-loop-arm : goal.invariant-loop-arm
invariant-loop-arm l = have_end l.ends l.end (drop l.arm-index l.arms) ≡ have_end l.ends l.end l.arms
