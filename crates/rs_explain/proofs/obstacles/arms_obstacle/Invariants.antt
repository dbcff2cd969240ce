use Rattle.std.proofs.Common.{◌≡◌, drop}
use Rattle.rs_explain.specs.ObstacleAt.{arms_obstacle}
use Rattle.rs_explain.proofs.obstacles.arms_obstacle.Given as goal

abbrev pub invariant-loop-place : goal.invariant-loop-place
invariant-loop-place l = arms_obstacle l.theirs (drop l.place l.arms) l.place ≡ arms_obstacle l.theirs l.arms 0
