-- Public: what the program answers, as C has it.
use Rattle.std.specs.Prelude.{◌≡◌, ◌⊎◌, ℕ, List, Option, Some}
use Rattle.rs_calls.specs.Calls.{FailsFor, IsAnswerTo}
use Rattle.rs_calls.specs.Words.{words_in}
use Rattle.rs_calls.specs.declared.answering.CallAnswer.{CallAnswer}
use Rattle.rs_calls.specs.declared.answering.CallFault.{CallFault}
use Rattle.rs_calls.specs.declared.answering.CallFault.TheVariants as fault
use Rattle.rs_held.specs.declared.text_handles.KeptText.{KeptText}
use Rattle.rs_numbered.specs.Copies.{CopyTells}
use Rattle.rs_numbered.specs.declared.statuses.CallStatus.{CallStatus}
use Rattle.rs_numbered.specs.declared.statuses.CallStatus.TheVariants.{Fine, Refused, Usage, Malformed, Unprojectable, TooLarge, NoMemory, Stopped, RingsFull, RoomTooSmall, NeedsWorkers, TooSmall}
use Rattle.rs_tool.specs.declared.statuses.Status.{Status}
use Rattle.rs_tool.specs.declared.statuses.Status.TheVariants as ended

-- the status that tells how a call of the program ended
abbrev pub status_of : Status → CallStatus
status_of ended.Fine = Fine
status_of ended.Refused = Refused
status_of ended.Usage = Usage
status_of ended.Malformed = Malformed
status_of ended.Unprojectable = Unprojectable
status_of ended.TooLarge = TooLarge
status_of ended.ReadFault = NoMemory
status_of ended.WriteFault = NoMemory
status_of ended.NoMemory = NoMemory
status_of ended.Stopped = Stopped
status_of ended.Full = RingsFull
status_of ended.RoomTooSmall = RoomTooSmall

-- the status that tells why there is no answer
abbrev pub status_of_fault : CallFault → CallStatus
status_of_fault fault.NotUtf8 = Usage
status_of_fault fault.NeedsWorkers = NeedsWorkers
status_of_fault fault.NoMemory = NoMemory

-- the answer is kept, and its status told; or memory was refused for that, and what was kept is
abbrev pub KeepTells : CallAnswer → Option KeptText → Option KeptText → CallStatus → Type 0
KeepTells told old new status = ((kept : KeptText) × (new ≡ Some kept) × (kept.bytes.items ≡ told.text.items) × (status ≡ status_of told.status)) ⊎ ((new ≡ old) × (status ≡ NoMemory))

-- the answer is handed out, and its status told; or it has no room
abbrev pub HandOutTells : CallAnswer → List ℕ → List ℕ → ℕ → CallStatus → Type 0
HandOutTells told old new written status = (CopyTells told.text.items old new written Fine × (status ≡ status_of told.status)) ⊎ (CopyTells told.text.items old new written TooSmall × (status ≡ TooSmall))

-- there is no answer, for this cause in the words, or since memory was refused
abbrev pub HasNoAnswer : List ℕ → CallStatus → Type 0
HasNoAnswer words status = (why : CallFault) × FailsFor (words_in words) why × (status ≡ status_of_fault why)

-- the whole answer of the program is kept, or there is none, and nothing has changed
abbrev pub AskTells : List ℕ → List ℕ → Option KeptText → Option KeptText → CallStatus → Type 0
AskTells words bytes old new status = ((told : CallAnswer) × IsAnswerTo (words_in words) bytes told × KeepTells told old new status) ⊎ ((new ≡ old) × HasNoAnswer words status)

-- the whole answer of the program is handed out, or it has no room, or there is none, and nothing is written
abbrev pub AnswerTells : List ℕ → List ℕ → List ℕ → List ℕ → ℕ → ℕ → CallStatus → Type 0
AnswerTells words bytes old new written_old written status =
    ((told : CallAnswer) × IsAnswerTo (words_in words) bytes told × HandOutTells told old new written status) ⊎ ((new ≡ old) × (written ≡ written_old) × HasNoAnswer words status)
