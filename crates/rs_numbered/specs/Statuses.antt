-- Public: the numbers of statuses.
use Rattle.std.specs.Prelude.{◌≡◌, ℕ, List, Option, Some, None, codes, ◌==◌, if◌then◌else◌}
use Rattle.rs_monitor.specs.declared.acts.Refusal.{Refusal}
use Rattle.rs_monitor.specs.declared.acts.Refusal.TheVariants as refused
pub use Rattle.rs_numbered.specs.declared.statuses.CallStatus.{CallStatus}
pub use Rattle.rs_numbered.specs.declared.statuses.CallStatus.TheVariants.{Fine, Refused, Usage, Malformed, Unprojectable, TooLarge, NoMemory, Stopped, RingsFull, RoomTooSmall, NeedsWorkers, TooSmall, Closed, Full, Empty, NotNow, Unknown, HandedOut, Gone, AnotherPeer, StateReceives, StateSends, NoSuchLabel, AnotherSort, HasEnded}

-- the number of a status: 0 to 11 are those with which the program ends
abbrev pub number_of : CallStatus → ℕ
number_of Fine = 0
number_of Refused = 1
number_of Usage = 2
number_of Malformed = 3
number_of Unprojectable = 4
number_of TooLarge = 5
number_of NoMemory = 8
number_of Stopped = 9
number_of RingsFull = 10
number_of RoomTooSmall = 11
number_of NeedsWorkers = 16
number_of TooSmall = 17
number_of Closed = 18
number_of Full = 19
number_of Empty = 20
number_of NotNow = 21
number_of Unknown = 22
number_of HandedOut = 23
number_of Gone = 24
number_of AnotherPeer = 32
number_of StateReceives = 33
number_of StateSends = 34
number_of NoSuchLabel = 35
number_of AnotherSort = 36
number_of HasEnded = 37

-- the status with this number, if there is one
abbrev pub status_numbered : ℕ → Option CallStatus
status_numbered number =
    if number == 0 then Some Fine else
    if number == 1 then Some Refused else
    if number == 2 then Some Usage else
    if number == 3 then Some Malformed else
    if number == 4 then Some Unprojectable else
    if number == 5 then Some TooLarge else
    if number == 8 then Some NoMemory else
    if number == 9 then Some Stopped else
    if number == 10 then Some RingsFull else
    if number == 11 then Some RoomTooSmall else
    if number == 16 then Some NeedsWorkers else
    if number == 17 then Some TooSmall else
    if number == 18 then Some Closed else
    if number == 19 then Some Full else
    if number == 20 then Some Empty else
    if number == 21 then Some NotNow else
    if number == 22 then Some Unknown else
    if number == 23 then Some HandedOut else
    if number == 24 then Some Gone else
    if number == 32 then Some AnotherPeer else
    if number == 33 then Some StateReceives else
    if number == 34 then Some StateSends else
    if number == 35 then Some NoSuchLabel else
    if number == 36 then Some AnotherSort else
    if number == 37 then Some HasEnded else None

-- what the status says
abbrev pub text_of : CallStatus → List ℕ
text_of Fine = codes "the call did what it was asked"
text_of Refused = codes "some role's machine is refused"
text_of Usage = codes "the words are none of the program's"
text_of Malformed = codes "the text is at fault"
text_of Unprojectable = codes "the protocol has no projection onto some role"
text_of TooLarge = codes "a quantity passes its limit"
text_of NoMemory = codes "memory ran out"
text_of Stopped = codes "a role was stopped at the limit of its acts"
text_of RingsFull = codes "no role could move, since queues were full"
text_of RoomTooSmall = codes "the queues are smaller than several workers need"
text_of NeedsWorkers = codes "the words ask for several workers, of which the library has none"
text_of TooSmall = codes "what was to be written is too long for its place"
text_of Closed = codes "nothing is open behind the handle"
text_of Full = codes "the queue is full"
text_of Empty = codes "nothing has come yet"
text_of NotNow = codes "the role's state has no such act"
text_of Unknown = codes "there is no such role, label, arm, kind or status"
text_of HandedOut = codes "the role's endpoint was handed out before"
text_of Gone = codes "nothing comes any more, since the sender's endpoint was given up"
text_of AnotherPeer = codes "the state acts with another role"
text_of StateReceives = codes "the state receives"
text_of StateSends = codes "the state sends"
text_of NoSuchLabel = codes "no arm of the state has the label"
text_of AnotherSort = codes "the value isn't of the arm's sort"
text_of HasEnded = codes "the machine has ended"

-- the status that tells a monitor's refusal
abbrev pub status_of_refusal : Refusal → CallStatus
status_of_refusal refused.AnotherPeer = AnotherPeer
status_of_refusal refused.StateReceives = StateReceives
status_of_refusal refused.StateSends = StateSends
status_of_refusal refused.NoSuchLabel = NoSuchLabel
status_of_refusal refused.AnotherSort = AnotherSort
status_of_refusal refused.HasEnded = HasEnded

-- the number is that of a status of which this holds
abbrev pub Answers : ℕ → (CallStatus → Type 0) → Type 0
Answers number Tells = (status : CallStatus) × (number ≡ number_of status) × Tells status
