use Rattle.std.proofs.Common.{◌≡◌, ◌≤◌}
use Rattle.rs_explain.specs.Growth as spec
use Rattle.rs_explain.proofs.growth.alike_from.Given as goal

abbrev pub invariant-loop-place : goal.invariant-loop-place
invariant-loop-place l = record {
  few : l.place ≤ l.begin;
  same : spec.alike_from l.first l.steps l.size l.more l.place ≡ spec.alike_from l.first l.steps l.size l.more l.begin;
}

abbrev pub decreases-loop-place : goal.decreases-loop-place
decreases-loop-place l = l.place
