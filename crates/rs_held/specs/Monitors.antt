-- Public: monitors that are opened.
use Rattle.std.specs.Prelude.{◌≡◌, ℕ, List, Option, Some, None, slice_get}
use Rattle.rs_answers.specs.declared.accepting.AcceptedDocument.{AcceptedDocument}
use Rattle.rs_model.specs.declared.limits.TheConstants.{DEFAULT_BOUND}
use Rattle.rs_model.specs.declared.machines.State.{State}
use Rattle.rs_model.specs.declared.machines.State.TheVariants.{Done}
use Rattle.rs_monitor.specs.Monitors.{new_monitor}
use Rattle.rs_open.specs.Opening.{IsCertifiedText}
use Rattle.rs_text.specs.Names.{place_of}
use Rattle.rs_numbered.specs.declared.statuses.CallStatus.{CallStatus}
use Rattle.rs_numbered.specs.declared.statuses.CallStatus.TheVariants.{Fine, NoMemory, Unknown}
use Rattle.rs_held.specs.Sessions.{IsRefusal}
use Rattle.rs_held.specs.declared.monitor_handles.HeldMonitor.{HeldMonitor}
use Rattle.rs_held.specs.declared.text_handles.KeptText.{KeptText}

-- the monitor is that of the role with this name in the accepted session of the text, and has let no act through yet
pub record IsWatched (text name : List ℕ) (held : HeldMonitor) : Type 0 where
  pub opened : IsCertifiedText DEFAULT_BOUND text held.opened
  pub role : ℕ
  pub named : place_of name held.opened.names.roles ≡ Some role
  pub machine : slice_get held.opened.session.machines role ≡ Some held.monitor.machine
  pub new : held.monitor ≡ new_monitor held.monitor.machine

-- Fine: the monitor is open, and no refusal is kept. Unknown: the text is accepted, and has no such role. NoMemory: memory was refused.
-- Else the text is refused, which is kept. But for Fine the monitor's handle is as it was
abbrev pub WatchTells : List ℕ → List ℕ → Option HeldMonitor → Option HeldMonitor → Option KeptText → Option KeptText → CallStatus → Type 0
WatchTells text name old new refusal_old refusal Fine = (held : HeldMonitor) × (new ≡ Some held) × IsWatched text name held × (refusal ≡ refusal_old)
WatchTells text name old new refusal_old refusal Unknown =
    (opened : AcceptedDocument) × IsCertifiedText DEFAULT_BOUND text opened × (place_of name opened.names.roles ≡ None) × (new ≡ old) × (refusal ≡ refusal_old)
WatchTells text name old new refusal_old refusal NoMemory = (new ≡ old) × (refusal ≡ refusal_old)
WatchTells text name old new refusal_old refusal status = (new ≡ old) × IsRefusal text refusal status

-- the state, or where there is none that of a machine that has ended
abbrev pub state_or_end : Option State → State
state_or_end None = Done
state_or_end (Some state) = state
