-- Queues of the room are enough for monitored programs.
use Rattle.std.proofs.Common.{◌≤◌, ◌⊎◌, inl, inr, ℕ, List}
use Rattle.rs_core.specs.Configurations.{Configuration}
use Rattle.rs_core.specs.Safety.{AllEnded}
use Rattle.rs_core.specs.declared.messages.Event.{Event}
use Rattle.rs_core.specs.declared.messages.Event.TheVariants.{Send, Receive}
use Rattle.rs_derive.specs.Data.{Derivation_data}
use Rattle.rs_model.specs.Data.{Machine_data, Protocol_data}
use Rattle.rs_model.specs.declared.graph.Role.{Role}
use Rattle.rs_monitor.proofs.Reaching.{reachable, through}
use Rattle.rs_monitor.specs.declared.acts.ProgramAct.{ProgramAct}
use Rattle.rs_monitor.specs.Sessions.{IsMonitored, MonitoredSession, MonitoredStep, act_of, shown}
use Rattle.rs_project.specs.Data.{Projection_data}
use Rattle.rs_room.proofs.Enough.{bounded_step, can_go_on}
use Rattle.rs_room.specs.Bounded.{BoundedStep}
use Rattle.rs_safety.specs.Room.{room_of}
use Rattle.rs_safety.specs.Sessions.{IsDerivedSession}
use Rattle.rs_watch.specs.Rooms.{FindsRoom}

-- some program can make an act that its monitor lets through, and that finds room
abbrev CanAct : List Machine_data → ℕ → MonitoredSession → Type 0
CanAct ms capacity s = (role : Role) × (act : ProgramAct) × (after : MonitoredSession) × MonitoredStep ms s role act after × FindsRoom capacity s.queue role act

by_step : (ms : List Machine_data) (capacity : ℕ) (s : MonitoredSession) (event : Event) (d : Configuration) → IsMonitored ms s → BoundedStep ms capacity (shown s) event d → CanAct ms capacity s
by_step ms capacity s (Send role place value) d r step =
    let t = through ms s (Send role place value) d r step.0 in
    (role, act_of ms (shown s) (Send role place value) d step.0, t.0, t.1, step.1)
by_step ms capacity s (Receive role) d r step =
    let t = through ms s (Receive role) d r step in
    (role, act_of ms (shown s) (Receive role) d step, t.0, t.1, tt)

pub enough : (pr : Protocol_data) (pjs : List Projection_data) (ms : List Machine_data) (ds : List Derivation_data) → IsDerivedSession pr pjs ms ds
    → (capacity : ℕ) → room_of ds ≤ capacity → (s : MonitoredSession) → IsMonitored ms s → CanAct ms capacity s ⊎ AllEnded ms (shown s)
enough pr pjs ms ds der capacity room s r = elim (can_go_on pr pjs ms ds der capacity room (shown s) (reachable ms s r)) [
  | inl can ↦ (let b = bounded_step pr pjs ms ds der capacity (shown s) (reachable ms s r) can.0 can.2 in inl (by_step ms capacity s b.0 b.1 r b.3))
  | inr ended ↦ inr ended
]
