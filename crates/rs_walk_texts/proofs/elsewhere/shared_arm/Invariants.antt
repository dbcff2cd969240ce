use Rattle.std.proofs.Common.{◌≡◌, drop}
use Rattle.rs_walk_texts.specs.Elsewhere.{shared_arm}
use Rattle.rs_walk_texts.proofs.elsewhere.shared_arm.Given as goal

abbrev pub invariant-loop-arm : goal.invariant-loop-arm
invariant-loop-arm l = shared_arm l.ours (drop l.arm-index l.theirs) ≡ shared_arm l.ours l.theirs
