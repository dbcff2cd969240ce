use Rattle.std.proofs.Common.{◌≡◌, ◌+◌, ◌≤◌, ◌++◌, reverse, vec_len, vec_capacity}
use Rattle.rs_pool.specs.Jobs.{stages_of}
use Rattle.rs_pool.proofs.vectors.stages_back.Given as goal

abbrev pub invariant-loop-job : goal.invariant-loop-job
invariant-loop-job g l = (l.stages.items ++ stages_of (reverse l.jobs.items) ≡ l.fn.stages.items ++ stages_of (reverse l.fn.jobs.items)) × (vec_len l.stages + vec_len l.jobs ≤ vec_capacity l.stages)

abbrev pub decreases-loop-job : goal.decreases-loop-job
decreases-loop-job g l = vec_len l.jobs
