use Rattle.std.proofs.Common.{◌≡◌, drop}
use Rattle.rs_pool.specs.Jobs.{first_with}
use Rattle.rs_pool.proofs.vectors.first_with.Given as goal

abbrev pub invariant-loop-job : goal.invariant-loop-job
invariant-loop-job g l = (first_with l.fn.progress l.number (drop l.job-index l.jobs) ≡ first_with l.fn.progress 0 l.jobs) × (l.number ≡ l.job-index)
