use Rattle.std.proofs.Common.{◌≡◌, drop}
use Rattle.rs_bodies.specs.Shapes.{reaches_behind_arms}
use Rattle.rs_bodies.proofs.shapes.mark.Given as goal

abbrev pub invariant-loop-arm : goal.invariant-loop-arm
invariant-loop-arm l = reaches_behind_arms l.number (drop l.arm-index l.arms) l.reaches ≡ reaches_behind_arms l.fn.number l.fn.arms l.fn.reaches
