use Rattle.std.proofs.Common.{◌≡◌, ◌+◌, ◌≤◌, ◌++◌, List, map, reverse, Some, vec_len, vec_capacity}
use Rattle.rs_pool.specs.declared.jobs.Job.{Job}
use Rattle.rs_pool.proofs.vectors.unseated.Given as goal

abbrev pub invariant-loop-slot : goal.invariant-loop-slot
invariant-loop-slot g l =
    ((all : List (Job g.row.A.Denot)) × (l.slots.items ≡ map Some all)) × (l.slots.items ++ map Some (reverse l.jobs.items) ≡ l.fn.slots.items)
    × (vec_len l.slots + vec_len l.jobs ≤ vec_capacity l.jobs)

abbrev pub decreases-loop-slot : goal.decreases-loop-slot
decreases-loop-slot g l = vec_len l.slots
