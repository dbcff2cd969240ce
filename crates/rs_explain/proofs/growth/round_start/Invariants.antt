use Rattle.std.proofs.Common.{◌≡◌, ◌≤◌, length}
use Rattle.rs_search.specs.Candidates.{start_spot}
use Rattle.rs_explain.specs.Growth as spec
use Rattle.rs_explain.proofs.growth.round_start.Given as goal

abbrev pub invariant-loop-count : goal.invariant-loop-count
invariant-loop-count l = record {
  few : l.count ≤ length l.steps;
  same : spec.round_start (start_spot l.sub l.above) l.steps l.count ≡ spec.round_start (start_spot l.sub l.above) l.steps (length l.steps);
}

abbrev pub decreases-loop-count : goal.decreases-loop-count
decreases-loop-count l = l.count
