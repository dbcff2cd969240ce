-- Public: what a call of the program does.
use Rattle.std.specs.Prelude.{◌≡◌, ◌⊎◌, ℕ, ◌≤◌, List, length, Option, None, IfSome}
use Rattle.std.specs.Io.KnownBytes.{Appends, Keeps, IsAtEnd}
use Rattle.rs_io.specs.Prefix.{AppendsPrefix}
use Rattle.rs_model.specs.declared.limits.TheConstants.{MOST_BYTES}
use Rattle.rs_tool.specs.Answers.{Answers}
use Rattle.rs_answers.specs.Data.{Answer_data}
use Rattle.rs_tool.specs.Data.{Call, CallOutput}
use Rattle.rs_tool.specs.Sessions.{HandsOutFor}
use Rattle.rs_tool.specs.Statuses.{status_of}
use Rattle.rs_tool.specs.Tasks.{AskForWorkers, ReadTheInput}
use Rattle.rs_tool.specs.declared.statuses.Reply.{Reply}
use Rattle.rs_tool.specs.declared.statuses.Serial.{Serial}
use Rattle.rs_tool.specs.declared.statuses.Serial.TheVariants.{Answered, NeedsWorkers}
use Rattle.rs_tool.specs.declared.statuses.Status.{Status}
use Rattle.rs_tool.specs.declared.statuses.Status.TheVariants.{ReadFault, WriteFault, NoMemory}

-- what the sink got, and what the reply says: which status came, and which session is handed out; where the input is these bytes
pub data Tells {K : Type 0} (words : List (List ℕ)) (bytes : List ℕ) (output : CallOutput K) (reply : Reply) : Type 0 where
  -- all of the answer's text, and its status
  TellsAll : (answer : Answer_data) → Answers words bytes answer → HandsOutFor words bytes answer reply.closed → Appends output.written output.later answer.text
      → reply.status ≡ status_of answer.verdict
      → Tells words bytes output reply
  -- a first part of the text, behind which a write failed
  TellsPart : (answer : Answer_data) → Answers words bytes answer → HandsOutFor words bytes answer reply.closed → AppendsPrefix output.written output.later answer.text
      → reply.status ≡ WriteFault
      → Tells words bytes output reply
  -- nothing, since a read failed
  TellsReadFault : Keeps output.written output.later → reply.status ≡ ReadFault → reply.closed ≡ None → Tells words bytes output reply
  -- nothing, since memory was refused
  TellsNoMemory : Keeps output.written output.later → reply.status ≡ NoMemory → reply.closed ≡ None → Tells words bytes output reply

-- what holds of the bytes that the source has left, where it tells them; and of any bytes, where the words read nothing
pub record ForInput (words : List (List ℕ)) (left : Option (List ℕ)) (fact : List ℕ → Type 0) : Type 0 where
  pub told : IfSome left fact
  pub unread : (ReadTheInput words → ⊥) → (bytes : List ℕ) → fact bytes

-- the call stopped before its answer was made
abbrev pub IsStopped : Status → Type 0
IsStopped status = (status ≡ ReadFault) ⊎ (status ≡ NoMemory)

-- what a call does with its source and its sink, and what it replies
pub record Ends {S K : Type 0} (call : Call S K) (reply : Reply) : Type 0 where
  -- the sink gets the answer
  pub answer : ForInput call.words call.input.left (λ bytes. Tells call.words bytes call.output reply)
  -- a call that stopped wrote nothing
  pub stopped : IsStopped reply.status → Keeps call.output.written call.output.later
  -- a fault is told only where the faults rose
  pub read_fault : reply.status ≡ ReadFault → call.input.rose
  pub write_fault : reply.status ≡ WriteFault → call.output.rose
  -- words that read nothing leave the source alone; others read a text that isn't too long to its end
  pub unread : (ReadTheInput call.words → ⊥) → call.input.behind ≡ call.input.source
  pub end : ReadTheInput call.words → IfSome call.input.left (λ bytes. length bytes ≤ MOST_BYTES → (IsStopped reply.status → ⊥) → IsAtEnd call.input.later)

-- how a call without workers ends: as any call does, with words that ask for several workers only since memory was refused;
-- or it tells that they are needed, and nothing was read or written
abbrev pub EndsAlone : {S K : Type 0} → Call S K → Serial → Type 0
EndsAlone call (Answered reply) = Ends call reply × (AskForWorkers call.words → reply.status ≡ NoMemory)
EndsAlone call NeedsWorkers = AskForWorkers call.words × (call.input.behind ≡ call.input.source) × (call.output.behind ≡ call.output.sink)

-- the fact of the reply that was answered
abbrev pub IfAnswered : Serial → (Reply → Type 0) → Type 0
IfAnswered (Answered reply) fact = fact reply
IfAnswered NeedsWorkers fact = Unit {0}
