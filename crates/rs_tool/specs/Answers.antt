-- Public: what the program answers to its words and its input.
use Rattle.std.specs.Prelude.{◌≡◌, ℕ, ◌<◌, ◌≤◌, ◌++◌, codes, length, List, Option, false, None}
use Rattle.rs_answers.specs.Checks.{Checks}
use Rattle.rs_answers.specs.Data.{Answer_data}
use Rattle.rs_runs.specs.Demos.{AnswersDemo}
use Rattle.rs_answers.specs.Improves.{Improves}
use Rattle.rs_answers.specs.Migrates.{Migrates}
use Rattle.rs_runs.specs.Pools.{RunsWith}
use Rattle.rs_answers.specs.RefusalTexts.{usage, too_large, fault_answer}
use Rattle.rs_answers.specs.Shown.{Shows}
use Rattle.rs_answers.specs.Tables.{Projects}
use Rattle.rs_answers.specs.Verifying.{Verifies}
use Rattle.rs_documents.specs.Data.{Document_data}
use Rattle.rs_documents.specs.Documents.{FirstFault, SpellsDocument}
use Rattle.rs_model.specs.declared.demos.Demo.{Demo}
use Rattle.rs_model.specs.declared.limits.TheConstants.{DEFAULT_BOUND, MOST_BYTES}
use Rattle.rs_draw.specs.Draws.{Draws}
use Rattle.rs_run_pictures.specs.Draws.{DrawsRun}
use Rattle.rs_tool.specs.Pipelines.{pipeline_text, pipeline_of, pipeline_summary}
use Rattle.rs_reasons.specs.Explains.{Explains}
use Rattle.rs_reasons.specs.Malformed.{explained_fault}
use Rattle.rs_text.specs.declared.faults.TextKind.{TextKind}
use Rattle.rs_words.specs.Meaning.{IsMeaning, SpellsTask}
use Rattle.rs_words.specs.declared.tasks.DocumentTask.{DocumentTask}
use Rattle.rs_words.specs.declared.tasks.DocumentTask.TheVariants as on_document
use Rattle.rs_words.specs.declared.tasks.Task.{Task}
use Rattle.rs_words.specs.declared.tasks.Task.TheVariants as task

-- the answer of the task to bytes that spell this document
abbrev pub AnswersDocument : DocumentTask → List ℕ → Document_data → Answer_data → Type 0
AnswersDocument (on_document.Check options) bytes d answer = Checks options.bound options.derivations d answer
AnswersDocument on_document.Verify bytes d answer = Verifies d answer
AnswersDocument on_document.Migrate bytes d answer = Migrates d answer
AnswersDocument on_document.Show bytes d answer = Shows d answer
AnswersDocument on_document.Project bytes d answer = Projects d answer
AnswersDocument (on_document.Run options workers) bytes d answer = RunsWith workers options d answer
AnswersDocument (on_document.Improve options) bytes d answer = Improves options.role options.bound options.swaps d answer
AnswersDocument (on_document.Explain bound) bytes d answer = Explains bound bytes d answer
AnswersDocument (on_document.Draw role) bytes d answer = Draws role d answer
AnswersDocument (on_document.DrawRun options) bytes d answer = DrawsRun options d answer

-- the answer of the task to the first fault of its text
abbrev pub fault_answer_of : DocumentTask → List ℕ → TextKind → ℕ → Answer_data
fault_answer_of (on_document.Explain bound) bytes kind at = explained_fault bytes kind at
fault_answer_of _ bytes kind at = fault_answer bytes kind at

-- the answer of the task to a text
pub data AnswersText (spelt : DocumentTask) (bytes : List ℕ) (answer : Answer_data) : Type 0 where
  -- it is too long
  IsTooLong : MOST_BYTES < length bytes → answer ≡ too_large (codes "text") → AnswersText spelt bytes answer
  -- it is at fault
  IsFaulty : length bytes ≤ MOST_BYTES → (kind : TextKind) (at : ℕ) → FirstFault bytes kind at → answer ≡ fault_answer_of spelt bytes kind at
      → AnswersText spelt bytes answer
  -- it spells a document
  IsDocument : length bytes ≤ MOST_BYTES → (d : Document_data) → SpellsDocument bytes d → AnswersDocument spelt bytes d answer
      → AnswersText spelt bytes answer

-- the answer of a demo to the input's data: how many workers run it changes nothing of the answer
pub data AnswersData (kind : Demo) (ring : Option ℕ) (bytes : List ℕ) (answer : Answer_data) : Type 0 where
  -- they are too long
  DataIsTooLong : MOST_BYTES < length bytes → answer ≡ too_large (codes "text") → AnswersData kind ring bytes answer
  -- they aren't
  DataIsShort : length bytes ≤ MOST_BYTES → AnswersDemo kind ring bytes answer → AnswersData kind ring bytes answer

-- the answer to `gen`: the line that says what the pipeline is, and the answer of a `check` to its document
pub record AnswersPipeline (number : ℕ) (answer : Answer_data) : Type 0 where
  pub checked : Answer_data
  pub checks : AnswersText (on_document.Check (record { bound = DEFAULT_BOUND; derivations = false })) (pipeline_text (pipeline_of number)) checked
  pub joined : answer ≡ record { text = pipeline_summary (pipeline_of number) ++ checked.text; verdict = checked.verdict }

-- the answer of the task, where the input is these bytes: it is carried out on their document, on these data, or on the
-- document that is made from a number
abbrev pub AnswersTask : Task → List ℕ → Answer_data → Type 0
AnswersTask (task.OnDocument spelt) bytes answer = AnswersText spelt bytes answer
AnswersTask (task.OnData demo) bytes answer = AnswersData demo.kind demo.ring bytes answer
AnswersTask (task.Gen number) bytes answer = AnswersPipeline number answer

-- the answer to the words, where the input is these bytes
pub data Answers (words : List (List ℕ)) (bytes : List ℕ) (answer : Answer_data) : Type 0 where
  -- they spell no task
  SpellsNothing : IsMeaning words None → answer ≡ usage → Answers words bytes answer
  -- they spell a task
  CarriesOut : (spelt : Task) → SpellsTask words spelt → AnswersTask spelt bytes answer → Answers words bytes answer
