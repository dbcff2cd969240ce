-- Public: the answer to words and a text, and why there is none.
use Rattle.std.specs.Prelude.{◌≡◌, ℕ, List}
use Rattle.rs_answers.specs.Data.{Answer_data}
use Rattle.rs_tool.specs.Answers.{Answers}
use Rattle.rs_tool.specs.Statuses.{status_of}
use Rattle.rs_tool.specs.Tasks.{AskForWorkers}
use Rattle.rs_calls.specs.Words.{HasNoText}
use Rattle.rs_calls.specs.declared.answering.CallAnswer.{CallAnswer}
use Rattle.rs_calls.specs.declared.answering.CallFault.{CallFault}
use Rattle.rs_calls.specs.declared.answering.CallFault.TheVariants.{NotUtf8, NeedsWorkers, NoMemory}

-- it is the program's answer to the words, where its input is these bytes: the whole text, and the status
pub record IsAnswerTo (words : List (List ℕ)) (bytes : List ℕ) (told : CallAnswer) : Type 0 where
  pub answer : Answer_data
  pub answers : Answers words bytes answer
  pub text : told.text.items ≡ answer.text
  pub status : told.status ≡ status_of answer.verdict

-- the fault has its cause in the words; that memory was refused needs none
abbrev pub FailsFor : List (List ℕ) → CallFault → Type 0
FailsFor words NotUtf8 = HasNoText words
FailsFor words NeedsWorkers = AskForWorkers words
FailsFor words NoMemory = Unit {0}
