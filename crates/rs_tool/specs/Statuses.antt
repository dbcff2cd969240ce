-- Headline: how calls end.
use Rattle.std.specs.Prelude.{ℕ}
use Rattle.rs_tool.specs.declared.statuses.Status.{Status}
use Rattle.rs_tool.specs.declared.statuses.Status.TheVariants as status
use Rattle.rs_tool.specs.declared.statuses.CallStop.{CallStop}
use Rattle.rs_tool.specs.declared.statuses.CallStop.TheVariants as stop
use Rattle.rs_answers.specs.declared.verdicts.Verdict.{Verdict}
use Rattle.rs_answers.specs.declared.verdicts.Verdict.TheVariants as verdict

-- the exit status of the program
abbrev pub code_of : Status → ℕ
code_of status.Fine = 0
code_of status.Refused = 1
code_of status.Usage = 2
code_of status.Malformed = 3
code_of status.Unprojectable = 4
code_of status.TooLarge = 5
code_of status.ReadFault = 6
code_of status.WriteFault = 7
code_of status.NoMemory = 8
code_of status.Stopped = 9
code_of status.Full = 10
code_of status.RoomTooSmall = 11

-- the status of an answer that was written whole
abbrev pub status_of : Verdict → Status
status_of verdict.Fine = status.Fine
status_of verdict.Refused = status.Refused
status_of verdict.Usage = status.Usage
status_of verdict.Malformed = status.Malformed
status_of verdict.Unprojectable = status.Unprojectable
status_of verdict.TooLarge = status.TooLarge
status_of verdict.Stopped = status.Stopped
status_of verdict.Full = status.Full
status_of verdict.RoomTooSmall = status.RoomTooSmall

-- the status of a call that stopped before its answer was made
abbrev pub status_after : CallStop → Status
status_after stop.ReadFault = status.ReadFault
status_after stop.NoMemory = status.NoMemory
