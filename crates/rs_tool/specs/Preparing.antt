-- Steps: what is made ready for words and answered to them, before it is written.
use Rattle.std.specs.Prelude.{◌≡◌, ℕ, ◌<◌, ◌≤◌, List, length, Option, Some, None, Result, Ok, Err, IfOk, IfSome, OnOk}
use Rattle.std.specs.Io.KnownBytes.{Appends, IsAtEnd}
use Rattle.rs_io.specs.Prefix.{AppendsPrefix}
use Rattle.rs_runs.specs.declared.answers.AnswerWithSession.{AnswerWithSession}
use Rattle.rs_model.specs.declared.limits.TheConstants.{MOST_BYTES}
use Rattle.rs_runs.specs.Ready.{ComesOf, IsReadyFor}
use Rattle.rs_runs.specs.declared.ready.Prepared.{Prepared}
use Rattle.rs_model.specs.declared.runs.Workers.{Workers}
use Rattle.rs_tool.specs.Calls.{ForInput}
use Rattle.rs_tool.specs.Data.{CallInput, CallOutput}
use Rattle.rs_tool.specs.Sessions.{GivesTo}
use Rattle.rs_tool.specs.Statuses.{status_after, status_of}
use Rattle.rs_tool.specs.Tasks.{AskForWorkers, ReadTheInput}
use Rattle.rs_tool.specs.declared.statuses.Reply.{Reply}
use Rattle.rs_tool.specs.declared.statuses.Status.TheVariants as status
use Rattle.rs_tool.specs.declared.statuses.CallStop.{CallStop}
use Rattle.rs_tool.specs.declared.statuses.CallStop.TheVariants as stop

-- what was read of an input: all of it, or that it is longer than a text may be
abbrev pub IsInput : List ℕ → Option (List ℕ) → Type 0
IsInput bytes (Some read) = read ≡ bytes
IsInput bytes None = MOST_BYTES < length bytes

-- what is made ready for the words and the input, to be run by these workers: what leads to their answer, or why nothing was
pub record Prepares {S : Type 0} (words : List (List ℕ)) (input : CallInput S) (workers : Workers) (made : Result Prepared CallStop) : Type 0 where
  pub ready : IfOk made (IsReadyFor workers)
  pub leads : IfOk made (λ p. (given : AnswerWithSession) → ComesOf workers p given → ForInput words input.left (λ bytes. GivesTo words bytes given))
  pub end : ReadTheInput words → IfSome input.left (λ bytes. length bytes ≤ MOST_BYTES → OnOk made (IsAtEnd input.later))
  pub unread : (ReadTheInput words → ⊥) → input.behind ≡ input.source
  pub read_fault : made ≡ Err stop.ReadFault → input.rose

-- what is given for the words and the input: an answer, or why none was made
pub record AnswersTo {S : Type 0} (words : List (List ℕ)) (input : CallInput S) (given : Result AnswerWithSession CallStop) : Type 0 where
  pub answer : IfOk given (λ a. ForInput words input.left (λ bytes. GivesTo words bytes a))
  pub end : ReadTheInput words → IfSome input.left (λ bytes. length bytes ≤ MOST_BYTES → OnOk given (IsAtEnd input.later))
  pub unread : (ReadTheInput words → ⊥) → input.behind ≡ input.source
  pub read_fault : given ≡ Err stop.ReadFault → input.rose

-- what one worker gives for the words: None where they ask for several, and then nothing was read
abbrev pub AnswersAlone : {S : Type 0} → List (List ℕ) → CallInput S → Option (Result AnswerWithSession CallStop) → Type 0
AnswersAlone words input None = AskForWorkers words × (input.behind ≡ input.source)
AnswersAlone words input (Some given) = AnswersTo words input given × (AskForWorkers words → given ≡ Err stop.NoMemory)

-- what is written of it, and the reply
pub data Delivers {K : Type 0} (given : Result AnswerWithSession CallStop) (output : CallOutput K) (reply : Reply) : Type 0 where
  -- all of the answer's text
  DeliversAll : (a : AnswerWithSession) → given ≡ Ok a → Appends output.written output.later a.answer.text → reply ≡ record { status = status_of a.answer.verdict; closed = a.closed }
      → Delivers given output reply
  -- a first part of it, behind which a write failed
  DeliversPart : (a : AnswerWithSession) → given ≡ Ok a → AppendsPrefix output.written output.later a.answer.text → output.rose → reply ≡ record { status = status.WriteFault; closed = a.closed }
      → Delivers given output reply
  -- nothing, since there is no answer
  DeliversNone : (why : CallStop) → given ≡ Err why → output.later ≡ output.written → reply ≡ record { status = status_after why; closed = None }
      → Delivers given output reply
