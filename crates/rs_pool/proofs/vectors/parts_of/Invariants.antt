use Rattle.std.proofs.Common.{◌≡◌, ◌+◌, ◌≤◌, ◌++◌, All, reverse, vec_len, vec_capacity}
use Rattle.rs_pool.specs.Jobs.{HasItsTranscript, actors_of, stages_of, transcripts_of}
use Rattle.rs_pool.proofs.vectors.parts_of.Given as goal

abbrev pub invariant-loop-job : goal.invariant-loop-job
invariant-loop-job g l = (l.parts.stages.items ++ stages_of (reverse l.jobs.items) ≡ stages_of l.fn.jobs.items) × (l.parts.actors.items ++ actors_of (reverse l.jobs.items) ≡ actors_of l.fn.jobs.items)
    × (l.parts.transcripts.items ++ transcripts_of (reverse l.jobs.items) ≡ transcripts_of l.fn.jobs.items)
    × (vec_len l.parts.stages + vec_len l.jobs ≤ vec_capacity l.parts.stages) × (vec_len l.parts.actors + vec_len l.jobs ≤ vec_capacity l.parts.actors)
    × (vec_len l.parts.transcripts + vec_len l.jobs ≤ vec_capacity l.parts.transcripts)
    × (All HasItsTranscript (reverse l.jobs.items) → All HasItsTranscript l.fn.jobs.items)

abbrev pub decreases-loop-job : goal.decreases-loop-job
decreases-loop-job g l = vec_len l.jobs
