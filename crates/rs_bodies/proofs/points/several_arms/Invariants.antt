use Rattle.std.proofs.Common.{◌≡◌, take, map}
use Rattle.rs_bodies.specs.Drafts.{settled_arm}
use Rattle.rs_bodies.proofs.points.several_arms.Given as goal

abbrev pub invariant-loop-arm : goal.invariant-loop-arm
invariant-loop-arm l = l.arms ≡ map (settled_arm l.last) (take l.arm-index l.drafts)
