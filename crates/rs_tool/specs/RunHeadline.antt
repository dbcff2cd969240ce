-- Public: what the statuses of a `run` tell that was carried out.
use Rattle.rs_tool.specs.declared.statuses.Status.{Status}
use Rattle.rs_tool.specs.declared.statuses.Status.TheVariants as status

-- the session was accepted, and run: all roles ended, one was stopped, or none could move
abbrev pub IsOfRun : Status → Type 0
IsOfRun status.Fine = Unit {0}
IsOfRun status.Stopped = Unit {0}
IsOfRun status.Full = Unit {0}
IsOfRun other = ⊥
