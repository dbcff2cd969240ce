-- Public: which session is handed out beside the answer to a demo.
use Rattle.std.specs.Prelude.{◌≡◌, ℕ, List, length, Option}
use Rattle.rs_answers.specs.Data.{Answer_data}
use Rattle.rs_runs.specs.RunSessions.{HasCome, IsThereWhere, WasRun}
use Rattle.rs_answers.specs.Sessions.{HasMachines}
use Rattle.rs_core.specs.Configurations.{Configuration}
use Rattle.rs_core.specs.Histories.{History}
use Rattle.rs_core.specs.Runs.{HasActors}
use Rattle.rs_core.specs.declared.runs.Outcome.{Outcome}
use Rattle.rs_runs.specs.Demos.{AnswersDemo, Opens, actor_at, demo_outcome_answer}
use Rattle.rs_runs.specs.declared.answers.AnswerWithSession.{AnswerWithSession}
use Rattle.rs_runs.specs.declared.limits.TheConstants.{DEMO_LIMIT}
use Rattle.rs_demos.specs.Acting.{by_demo}
use Rattle.rs_demos.specs.declared.actors.DemoTalker.{DemoTalker}
use Rattle.rs_documents.specs.Data.{Document_data}
use Rattle.rs_documents.specs.Documents.{SpellsDocument}
use Rattle.rs_exec.specs.Runs.{IsOutcomeOf}
use Rattle.rs_model.specs.Data.{Machine_data, Names_data}
use Rattle.rs_model.specs.declared.demos.Demo.{Demo}
use Rattle.rs_project.specs.Data.{Projection_data}
use Rattle.rs_rings.specs.Closed.{Closed_data}

-- what is told is an outcome to which the histories come: all have ended, and what is printed is that of what the actors have
-- become; or the role that is named has as many acts as the limit, and hasn't ended
abbrev pub DemoComesTo : Demo → Names_data → List Machine_data → Answer_data → (ℕ → History) → Configuration → (ℕ → DemoTalker) → Type 0
DemoComesTo kind names machines answer history end after =
    (o : Outcome) × (left : List DemoTalker) × IsOutcomeOf machines DEMO_LIMIT history end o × HasActors (length machines) after left × (answer ≡ demo_outcome_answer kind names o left)

-- the session is the run of these machines by these actors, and comes to what is told
abbrev pub WasRunByActors : Demo → List DemoTalker → Names_data → List Machine_data → Answer_data → Closed_data → Type 0
WasRunByActors kind actors names machines answer = WasRun machines by_demo (actor_at actors) DEMO_LIMIT (DemoComesTo kind names machines answer)

-- the session is the run of the machines of this document by these actors, and comes to what is told
pub record WasRunOn (kind : Demo) (actors : List DemoTalker) (d : Document_data) (answer : Answer_data) (closed : Closed_data) : Type 0 where
  pub projections : List Projection_data
  pub machines : List Machine_data
  pub has : HasMachines d projections machines
  pub run : WasRunByActors kind actors d.names machines answer closed

-- the session is the run of the demo's own document, by the actors that the bytes ask for
pub record WasPerformed (kind : Demo) (bytes : List ℕ) (answer : Answer_data) (closed : Closed_data) : Type 0 where
  pub actors : List DemoTalker
  pub text : List ℕ
  pub document : Document_data
  pub opens : Opens kind bytes actors text
  pub spells : SpellsDocument text document
  pub run : WasRunOn kind actors document answer closed

-- what is given for a `demo` on these bytes: its answer, and the session beside it exactly where all roles have ended or one
-- was stopped
abbrev pub GivesDemo : Demo → Option ℕ → List ℕ → AnswerWithSession → Type 0
GivesDemo kind ring bytes given = AnswersDemo kind ring bytes given.answer × IsThereWhere (HasCome given.answer.verdict) (WasPerformed kind bytes given.answer) given.closed
