-- Steps: jobs, what a job on the table of jobs is known to be, and what is counted for it.
use Rattle.std.specs.Prelude.{◌≡◌, ◌⊎◌, ℕ, zero, suc, ◌+◌, ◌≤◌, Bool, true, false, if◌then◌else◌, List, [], ◌∷◌, length, map, slice_get, IfSome, Option, Some, None}
use Rattle.rs_core.specs.Actors.{Behaviour}
use Rattle.rs_core.specs.Histories.{transcript_of}
use Rattle.rs_core.specs.declared.transcripts.Entry.{Entry}
use Rattle.rs_exec.specs.Data.{Task_data}
use Rattle.rs_exec.specs.Tasks.{HasEnded, IsTaskOf, PlaysTask}
use Rattle.rs_exec.specs.declared.tasks.Turn.{Turn}
use Rattle.rs_exec.specs.declared.tasks.Turn.TheVariants as turn
use Rattle.rs_rings.specs.Acts.{role_of_number}
use Rattle.rs_rings.specs.Passes.{Rings_data}
use Rattle.rs_session.specs.Stages.{sight_of_stage}
use Rattle.rs_session.specs.declared.stages.Stage.{Stage}
use Rattle.rs_pool.specs.declared.jobs.Job.{Job}
use Rattle.rs_pool.specs.declared.jobs.Progress.{Progress}
use Rattle.rs_pool.specs.declared.jobs.Progress.TheVariants.{Underway, Ended, AtLimit, Refused}

-- what all jobs of a pool began with: the session, the limit, and the actors in role order
pub record Start (A : Type 0) : Type 0 where
  pub session : Rings_data
  pub limit : ℕ
  pub given : List A

-- what a turn says of the task's progress
abbrev pub progress_after : Turn → Progress
progress_after turn.Moved = Underway
progress_after (turn.Waits why) = Underway
progress_after turn.Ended = Ended
progress_after turn.AtLimit = AtLimit
progress_after turn.NoMemory = Refused

-- what is counted for a job
abbrev pub amount_of : Progress → ℕ
amount_of Underway = 0
amount_of Ended = 1
amount_of AtLimit = 16
amount_of Refused = 16

-- the actor that was given to role r plays the history of the task's stage, and has become the task's actor
abbrev pub PlaysGiven : {A : Type 0} → Behaviour A → Start A → ℕ → Task_data A → Type 0
PlaysGiven b start r task = IfSome (slice_get start.given r) (λ x. PlaysTask start.session b x task)

-- what is known of the task by its progress
abbrev pub TaskStands : {A : Type 0} → Behaviour A → Start A → ℕ → Progress → Task_data A → Type 0
TaskStands b start r Underway task = PlaysGiven b start r task
TaskStands b start r Ended task = PlaysGiven b start r task × HasEnded task.stage
TaskStands b start r AtLimit task = PlaysGiven b start r task × (HasEnded task.stage → ⊥) × (task.limit ≤ length task.transcript)
TaskStands b start r Refused task = task.failed ≡ true

-- the job of role r: its task is of the session, has the limit, and has made no more acts than that
pub record JobFits {A : Type 0} (b : Behaviour A) (start : Start A) (r : ℕ) (job : Job A) : Type 0 where
  pub of : IsTaskOf start.session job.task
  pub role : (sight_of_stage job.task.stage).role ≡ role_of_number r
  pub limit : job.task.limit ≡ start.limit
  pub acts : length job.task.transcript ≤ start.limit
  pub stands : TaskStands b start r job.progress job.task

-- what the amount that was counted says of a job
abbrev pub Over : {A : Type 0} → ℕ → Job A → Type 0
Over zero job = Unit {0}
Over (suc zero) job = job.progress ≡ Ended
Over (suc (suc k)) job = (job.progress ≡ AtLimit) ⊎ (job.progress ≡ Refused)

-- the parts of jobs, in order: the stages
abbrev pub stages_of : {A : Type 0} → List (Job A) → List Stage
stages_of jobs = map (λ j. j.task.stage) jobs

-- the actors of jobs
abbrev pub actors_of : {A : Type 0} → List (Job A) → List A
actors_of jobs = map (λ j. j.task.actor) jobs

-- the transcripts of jobs
abbrev pub transcripts_of : {A : Type 0} → List (Job A) → List (List Entry)
transcripts_of jobs = map (λ j. j.task.transcript) jobs

-- a job's transcript is that of its stage's history
abbrev pub HasItsTranscript : {A : Type 0} → Job A → Type 0
HasItsTranscript job = job.task.transcript ≡ transcript_of (sight_of_stage job.task.stage).part.history

-- the stage's role has made no act
abbrev pub HasDoneNothing : Stage → Type 0
HasDoneNothing stage = (sight_of_stage stage).part.history ≡ []

-- a job whose task has made no turn
pub record JobIsNew {A : Type 0} (most : ℕ) (job : Job A) : Type 0 where
  pub progress : job.progress ≡ Underway
  pub limit : job.task.limit ≡ most
  pub kept : job.task.kept ≡ None
  pub transcript : job.task.transcript ≡ []

-- two are the same progress
abbrev pub is_same : Progress → Progress → Bool
is_same Underway Underway = true
is_same Ended Ended = true
is_same AtLimit AtLimit = true
is_same Refused Refused = true
is_same p q = false

-- the number of the first job with that progress, of jobs whose first one has number i
abbrev pub first_with : {A : Type 0} → Progress → ℕ → List (Job A) → Option ℕ
first_with p i [] = None
first_with p i (j ∷ js) = if is_same j.progress p then Some i else first_with p (i + 1) js
