use Rattle.std.proofs.Common.{◌≡◌, drop}
use Rattle.rs_actors.specs.Talking.{first_place}
use Rattle.rs_actors.proofs.actors.arm_place.Given as goal

abbrev pub invariant-loop-place : goal.invariant-loop-place
invariant-loop-place l = first_place l.sort l.place (drop l.place l.arms) ≡ first_place l.sort 0 l.arms
