-- Public: what `run` answers to a document whose session several workers run.
use Rattle.std.specs.Prelude.{◌≡◌, ◌⊎◌, ◌<◌, ◌≤◌, ℕ, List}
use Rattle.rs_core.specs.Draws.{by_draws}
use Rattle.rs_core.specs.declared.runs.Outcome.{Outcome}
use Rattle.rs_derive.specs.Data.{Derivation_data}
use Rattle.rs_documents.specs.Data.{Document_data}
use Rattle.rs_model.specs.Data.{Machine_data, Names_data}
use Rattle.rs_pool.specs.Pool.{AgreesWithPlain}
use Rattle.rs_project.specs.Data.{Projection_data}
use Rattle.rs_safety.specs.Room.{room_of}
use Rattle.rs_answers.specs.Data.{Answer_data}
use Rattle.rs_answers.specs.Derivations.{AreCanonical}
use Rattle.rs_answers.specs.RefusalTexts.{too_small}
use Rattle.rs_answers.specs.Refusals.{HasNoDerivations, refusal_answer}
use Rattle.rs_runs.specs.Runs.{Runs, actor_of, capacity_of, outcome_answer}
use Rattle.rs_answers.specs.Sessions.{HasMachines}
use Rattle.rs_answers.specs.declared.refusals.Refusal.{Refusal}
use Rattle.rs_model.specs.declared.runs.RunOptions.{RunOptions}
use Rattle.rs_model.specs.declared.runs.Workers.{Workers}
use Rattle.rs_model.specs.declared.runs.Workers.TheVariants.{One, Several}
use Rattle.rs_answers.specs.declared.verdicts.Verdict.TheVariants as verdict

-- what is told of a run of the machines by several workers: what the plain run over unbounded queues comes to, by these
-- actors. Where that one is stopped, the role that is named is one that comes to its limit wherever all go on as long as
-- they can; which of these it is, is left open
pub record TellsPool (names : Names_data) (machines : List Machine_data) (given : ℕ → ℕ) (limit : ℕ) (answer : Answer_data) : Type 0 where
  pub outcome : Outcome
  pub actors : List ℕ
  pub agrees : AgreesWithPlain machines by_draws given limit outcome actors
  pub told : answer ≡ outcome_answer names outcome

-- what is answered to an accepted session
pub data RunsTogether (options : RunOptions) (names : Names_data) (machines : List Machine_data) (derivations : List Derivation_data) (answer : Answer_data) : Type 0 where
  -- the rings hold fewer messages than its room
  IsTooSmall : capacity_of options.ring (room_of derivations) < room_of derivations → answer ≡ too_small (capacity_of options.ring (room_of derivations)) (room_of derivations)
      → RunsTogether options names machines derivations answer
  -- they hold as many, and it is run
  IsRunTogether : room_of derivations ≤ capacity_of options.ring (room_of derivations) → TellsPool names machines (actor_of options.seed) options.limit answer
      → RunsTogether options names machines derivations answer

-- one of these applies
pub data RunsByWorkers (options : RunOptions) (d : Document_data) (answer : Answer_data) : Type 0 where
  -- the document is refused
  IsRefused : (refusal : Refusal) → HasNoDerivations options.bound d refusal → answer ≡ refusal_answer d.names refusal → RunsByWorkers options d answer
  -- the session is accepted
  IsAccepted : (projections : List Projection_data) (machines : List Machine_data) (derivations : List Derivation_data) → HasMachines d projections machines
      → AreCanonical options.bound machines projections derivations → RunsTogether options d.names machines derivations answer → RunsByWorkers options d answer

-- what `run` answers to a document: one worker goes round after round, several go as they come
abbrev pub RunsWith : Workers → RunOptions → Document_data → Answer_data → Type 0
RunsWith One options d answer = Runs options d answer
RunsWith (Several n) options d answer = RunsByWorkers options d answer

-- where the session of the document is accepted, the rings hold as many messages as its room
abbrev pub RingsHoldItsRoom : RunOptions → Document_data → Type 0
RingsHoldItsRoom options d = (projections : List Projection_data) (machines : List Machine_data) (derivations : List Derivation_data) → HasMachines d projections machines
    → AreCanonical options.bound machines projections derivations → room_of derivations ≤ capacity_of options.ring (room_of derivations)

-- two answers are the same, or both tell that a role was stopped
abbrev pub AreSameOrStopped : Answer_data → Answer_data → Type 0
AreSameOrStopped one other = (one ≡ other) ⊎ ((one.verdict ≡ verdict.Stopped) × (other.verdict ≡ verdict.Stopped))
