-- Public: monitors that keep their acts.
use Rattle.std.specs.Prelude.{ℕ, List, Option}
use Rattle.rs_model.specs.declared.machines.State.{State}
use Rattle.rs_monitor.specs.Acts.{ProgramAct, IsActOf}
use Rattle.rs_monitor.specs.Monitors.{Monitor_data}
use Rattle.rs_monitor.specs.Refusals.{IsRefusedFor}
use Rattle.rs_monitor.specs.declared.traces.TraceFault.{TraceFault}
use Rattle.rs_monitor.specs.declared.traces.TraceFault.TheVariants.{Refused, NoMemory}

-- a monitor, and the acts that it let through
pub record TracedMonitor_data : Type 0 where
  pub monitor : Monitor_data
  pub trace : List ProgramAct

-- why the act wasn't let through and kept: it isn't one of the state's; or it is, and there was no memory to keep it
abbrev pub IsUntraced : Option State → ProgramAct → TraceFault → Type 0
IsUntraced state act (Refused refusal) = IsRefusedFor state act refusal
IsUntraced state act NoMemory = (next : ℕ) × IsActOf state act next
