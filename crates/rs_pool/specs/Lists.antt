-- Steps: lists with room for what a run of n roles needs.
use Rattle.std.specs.Prelude.{◌≡◌, ℕ, ◌+◌, ◌≤◌, [], replicate, vec_capacity}
use Rattle.rs_pool.specs.declared.pool.Lists.{Lists}
use Rattle.rs_pool.specs.declared.vectors.Made.{Made}

-- the words are as they have to be at the start, and the other lists are empty, with room for that number of roles and workers
pub record HaveRoom {A : Type 0} (roles workers : ℕ) (lists : Lists A) : Type 0 where
  pub words_are : lists.words.items ≡ replicate (roles + 1) 0
  pub empty : (lists.worker_seats.items ≡ []) × (lists.transcripts.items ≡ []) × (lists.slots.items ≡ []) × (lists.ended.items ≡ [])
  pub worker_seats_room : workers ≤ vec_capacity lists.worker_seats
  pub room : (roles ≤ vec_capacity lists.transcripts) × (roles ≤ vec_capacity lists.slots) × (roles ≤ vec_capacity lists.ended)

-- the lists that the jobs were made of are empty, with room for that number of roles again
pub record LeaveRoom {A : Type 0} (roles : ℕ) (made : Made A) : Type 0 where
  pub empty : (made.stages.items ≡ []) × (made.actors.items ≡ [])
  pub room : (roles ≤ vec_capacity made.stages) × (roles ≤ vec_capacity made.actors) × (roles ≤ vec_capacity made.jobs)
