-- Public: which session a call hands out.
use Rattle.std.specs.Prelude.{◌≡◌, ◌⊎◌, ℕ, List, Option, None}
use Rattle.rs_answers.specs.Data.{Answer_data}
use Rattle.rs_runs.specs.RunSessions.{HasCome, IsThereWhere, WasRunOf}
use Rattle.rs_runs.specs.declared.answers.AnswerWithSession.{AnswerWithSession}
use Rattle.rs_answers.specs.declared.verdicts.Verdict.{Verdict}
use Rattle.rs_runs.specs.DemoSessions.{WasPerformed}
use Rattle.rs_documents.specs.Data.{Document_data}
use Rattle.rs_documents.specs.Documents.{SpellsDocument}
use Rattle.rs_rings.specs.Closed.{Closed_data}
use Rattle.rs_tool.specs.Answers.{Answers, AnswersTask}
use Rattle.rs_tool.specs.Statuses.{status_of}
use Rattle.rs_tool.specs.declared.statuses.Reply.{Reply}
use Rattle.rs_tool.specs.declared.statuses.Status.{Status}
use Rattle.rs_tool.specs.declared.statuses.Status.TheVariants.{WriteFault}
use Rattle.rs_words.specs.Meaning.{IsMeaning, SpellsTask}
use Rattle.rs_words.specs.declared.tasks.Task.{Task}
use Rattle.rs_words.specs.declared.tasks.DocumentTask.TheVariants as on_document
use Rattle.rs_words.specs.declared.tasks.Task.TheVariants as task

-- the task is one that runs a session
abbrev pub RunsASession : Task → Type 0
RunsASession (task.OnDocument (on_document.Run options workers)) = Unit {0}
RunsASession (task.OnData demo) = Unit {0}
RunsASession other = ⊥

-- the session is one that was run for the task on the input, and comes to what is answered
abbrev pub IsSessionOf : Task → List ℕ → Answer_data → Closed_data → Type 0
IsSessionOf (task.OnDocument (on_document.Run options workers)) bytes answer closed = (d : Document_data) × SpellsDocument bytes d × WasRunOf options d answer closed
IsSessionOf (task.OnData demo) bytes answer closed = WasPerformed demo.kind bytes answer closed
IsSessionOf other bytes answer closed = ⊥

-- beside the answer to the input there is a session exactly where the task runs one, and the answer is that it has ended or was stopped
abbrev pub HandsOut : Task → List ℕ → Answer_data → Option Closed_data → Type 0
HandsOut spelt bytes answer = IsThereWhere (RunsASession spelt × HasCome answer.verdict) (IsSessionOf spelt bytes answer)

-- beside the answer to the words stands the session of their task; where they spell no task there is none
pub data HandsOutFor (words : List (List ℕ)) (bytes : List ℕ) (answer : Answer_data) (closed : Option Closed_data) : Type 0 where
  ForNothing : IsMeaning words None → closed ≡ None → HandsOutFor words bytes answer closed
  ForTask : (spelt : Task) → SpellsTask words spelt → HandsOut spelt bytes answer closed → HandsOutFor words bytes answer closed

-- what is given to the task where the input is these bytes: its answer, and the session beside it
abbrev pub Gives : Task → List ℕ → AnswerWithSession → Type 0
Gives spelt bytes given = AnswersTask spelt bytes given.answer × HandsOut spelt bytes given.answer given.closed

-- what is given to the words where the input is these bytes
abbrev pub GivesTo : List (List ℕ) → List ℕ → AnswerWithSession → Type 0
GivesTo words bytes given = Answers words bytes given.answer × HandsOutFor words bytes given.answer given.closed

-- the answer with this verdict was written, whole or in part
abbrev pub WasWritten : Verdict → Status → Type 0
WasWritten verdict status = (status ≡ status_of verdict) ⊎ (status ≡ WriteFault)

-- with words of the task on these bytes a session is handed out exactly where the task runs one, the answer is that it has ended
-- or was stopped, and the answer was written, whole or in part
abbrev pub HasItsSession : List (List ℕ) → Task → List ℕ → Reply → Type 0
HasItsSession words spelt bytes reply = (answer : Answer_data) × Answers words bytes answer
    × IsThereWhere (RunsASession spelt × HasCome answer.verdict × WasWritten answer.verdict reply.status) (IsSessionOf spelt bytes answer) reply.closed
