use Rattle.std.proofs.Common.{◌≡◌, ◌+◌, ◌≤◌, ◌++◌, All, map, reverse, vec_len, vec_capacity}
use Rattle.rs_exec.specs.Tasks.{HasEnded}
use Rattle.rs_session.specs.Stages.{sight_of_stage}
use Rattle.rs_pool.proofs.vectors.ended_of.Given as goal

abbrev pub invariant-loop-stage : goal.invariant-loop-stage
invariant-loop-stage l =
    (l.ended.items ++ map sight_of_stage (reverse l.stages.items) ≡ map sight_of_stage l.fn.stages.items) × (vec_len l.ended + vec_len l.stages ≤ vec_capacity l.ended) × All HasEnded l.stages.items

abbrev pub decreases-loop-stage : goal.decreases-loop-stage
decreases-loop-stage l = vec_len l.stages
