use Rattle.std.proofs.Common.{◌≡◌, ◌+◌, ◌≤◌, ◌++◌, All, reverse, vec_len, vec_capacity}
use Rattle.rs_pool.specs.Jobs.{HasDoneNothing, JobIsNew, actors_of, stages_of}
use Rattle.rs_pool.proofs.vectors.jobs_of.Given as goal

abbrev pub invariant-loop-stage : goal.invariant-loop-stage
invariant-loop-stage g l = (l.stages.items ++ stages_of (reverse l.jobs.items) ≡ l.fn.stages.items) × (l.actors.items ++ actors_of (reverse l.jobs.items) ≡ l.fn.actors.items)
    × (vec_len l.actors ≡ vec_len l.stages) × (vec_len l.stages + vec_len l.jobs ≡ vec_len l.fn.stages)
    × (vec_len l.fn.stages ≤ vec_capacity l.jobs) × (vec_len l.fn.stages ≤ vec_capacity l.stages) × (vec_len l.fn.stages ≤ vec_capacity l.actors)
    × All HasDoneNothing l.stages.items × All (JobIsNew l.limit) l.jobs.items

abbrev pub decreases-loop-stage : goal.decreases-loop-stage
decreases-loop-stage g l = vec_len l.stages
