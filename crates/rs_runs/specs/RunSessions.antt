-- Public: which session is handed out beside the answer to a run.
use Rattle.std.specs.Prelude.{◌≡◌, ℕ, List, Option, Some, None}
use Rattle.rs_core.specs.Actors.{Behaviour}
use Rattle.rs_core.specs.Configurations.{Configuration}
use Rattle.rs_core.specs.Determined.{IsRun}
use Rattle.rs_core.specs.Draws.{by_draws}
use Rattle.rs_core.specs.Histories.{History}
use Rattle.rs_core.specs.declared.runs.Outcome.{Outcome}
use Rattle.rs_documents.specs.Data.{Document_data}
use Rattle.rs_exec.specs.Runs.{IsOutcomeOf}
use Rattle.rs_model.specs.Data.{Machine_data, Names_data}
use Rattle.rs_project.specs.Data.{Projection_data}
use Rattle.rs_rings.specs.Closed.{Closed_data}
use Rattle.rs_rings.specs.Views.{history_in}
use Rattle.rs_answers.specs.Data.{Answer_data}
use Rattle.rs_runs.specs.Pools.{RunsWith}
use Rattle.rs_runs.specs.Runs.{actor_of, outcome_answer}
use Rattle.rs_answers.specs.Sessions.{HasMachines}
use Rattle.rs_model.specs.declared.runs.RunOptions.{RunOptions}
use Rattle.rs_model.specs.declared.runs.Workers.{Workers}
use Rattle.rs_runs.specs.declared.answers.AnswerWithSession.{AnswerWithSession}
use Rattle.rs_answers.specs.declared.verdicts.Verdict.{Verdict}
use Rattle.rs_answers.specs.declared.verdicts.Verdict.TheVariants as verdict

-- a session is there exactly where it is due, and then this holds of it
abbrev pub IsThereWhere : Type 0 → (Closed_data → Type 0) → Option Closed_data → Type 0
IsThereWhere due fact None = due → ⊥
IsThereWhere due fact (Some closed) = due × fact closed

-- a run came to its end, or to a stop
abbrev pub HasCome : Verdict → Type 0
HasCome verdict.Fine = Unit {0}
HasCome verdict.Stopped = Unit {0}
HasCome other = ⊥

-- the session is one of these machines, and what was done in it is a run of them by these actors within the limit: its
-- histories are legal, each role's actor plays its role's history, and no role has made more acts. What the histories lead
-- to, and what the actors have become, is so
pub record WasRun {A : Type 0} (machines : List Machine_data) (b : Behaviour A) (actors : ℕ → A) (limit : ℕ) (comes_to : (ℕ → History) → Configuration → (ℕ → A) → Type 0) (closed : Closed_data)
    : Type 0 where
  pub same_machines : closed.machines ≡ machines
  pub end : Configuration
  pub after : ℕ → A
  pub run : IsRun machines b actors limit (history_in closed.last) end after
  pub comes : comes_to (history_in closed.last) end after

-- what is told is an outcome to which the histories come: all have ended, and the histories, without the values that were
-- sent, are the transcripts; or the role that is named has as many acts as the limit, and hasn't ended
abbrev pub RunComesTo : Names_data → List Machine_data → ℕ → Answer_data → (ℕ → History) → Configuration → Type 0
RunComesTo names machines limit answer history end = (o : Outcome) × IsOutcomeOf machines limit history end o × (answer ≡ outcome_answer names o)

-- the session is the run of these machines by actors that draw, and comes to what is told
abbrev pub WasRunByDraws : Names_data → List Machine_data → (ℕ → ℕ) → ℕ → Answer_data → Closed_data → Type 0
WasRunByDraws names machines actors limit answer = WasRun machines by_draws actors limit (λ history end after. RunComesTo names machines limit answer history end)

-- the session is the run of the machines of the document by the actors of the seed, and comes to what is told
pub record WasRunOf (options : RunOptions) (d : Document_data) (answer : Answer_data) (closed : Closed_data) : Type 0 where
  pub projections : List Projection_data
  pub machines : List Machine_data
  pub has : HasMachines d projections machines
  pub run : WasRunByDraws d.names machines (actor_of options.seed) options.limit answer closed

-- what is given for a `run` of the document: its answer, and the session beside it exactly where all roles have ended or one
-- was stopped
abbrev pub GivesRun : Workers → RunOptions → Document_data → AnswerWithSession → Type 0
GivesRun workers options d given = RunsWith workers options d given.answer × IsThereWhere (HasCome given.answer.verdict) (WasRunOf options d given.answer) given.closed
