-- Public: programs with monitors over queues of their own, and what they do together.
use Rattle.std.specs.Prelude.{◌≡◌, ◌≢◌, ◌⊎◌, ℕ, ◌<◌, List, [], ◌∷◌, ◌++◌, Some, slice_get, length}
use Rattle.rs_core.specs.Configurations.{Configuration, Step}
use Rattle.rs_core.specs.declared.messages.Event.{Event}
use Rattle.rs_core.specs.declared.messages.Event.TheVariants.{Send, Receive}
use Rattle.rs_core.specs.declared.messages.Message.{Message}
use Rattle.rs_model.specs.Data.{Machine_data}
use Rattle.rs_model.specs.declared.graph.Role.{Role}
use Rattle.rs_monitor.specs.Acts.{ProgramAct, Sent, Received}
use Rattle.rs_monitor.specs.Monitors.{Monitor_data, LetsThrough, new_monitor}

-- the messages under way from each role to each other one, the oldest first
abbrev pub Queues : Type 0
Queues = ℕ → ℕ → List Message

-- one moment of the programs: the monitor of each role, and the queues between them
pub record MonitoredSession : Type 0 where
  pub monitor : ℕ → Monitor_data
  pub queue : Queues

-- at the start each role has a new monitor of its machine, and each queue is empty
pub record BeginsAt (machines : List Machine_data) (s : MonitoredSession) : Type 0 where
  pub monitors : (p : ℕ) (m : Machine_data) → slice_get machines p ≡ Some m → s.monitor p ≡ new_monitor m
  pub queues : (p q : ℕ) → s.queue p q ≡ []

-- all queues but the one from p to q are as before
abbrev pub OtherQueuesStay : Queues → ℕ → ℕ → Queues → Type 0
OtherQueuesStay before p q after = (x y : ℕ) → (x ≢ p) ⊎ (y ≢ q) → after x y ≡ before x y

-- what an act of role p does to the queues: a message that it sends is added at the end of the queue to its peer; a message that
-- it receives was the oldest in the queue from its peer, and is removed. So no queue loses or reorders messages.
abbrev pub QueuesCarry : Queues → ℕ → ProgramAct → Queues → Type 0
QueuesCarry before p (Sent peer message) after = (after p peer.0 ≡ before p peer.0 ++ (message ∷ [])) × OtherQueuesStay before p peer.0 after
QueuesCarry before p (Received peer message) after = (before peer.0 p ≡ message ∷ after peer.0 p) × OtherQueuesStay before peer.0 p after

-- the program of a role makes an act: the role's monitor lets it through, the queues carry its message, and the other monitors
-- don't change
pub record MonitoredStep (machines : List Machine_data) (before : MonitoredSession) (role : Role) (act : ProgramAct) (after : MonitoredSession) : Type 0 where
  pub present : role.0 < length machines
  pub lets : LetsThrough (before.monitor role.0) act (after.monitor role.0)
  pub carries : QueuesCarry before.queue role.0 act after.queue
  pub others : (r : ℕ) → r ≢ role.0 → after.monitor r ≡ before.monitor r

-- the role whose step an event is
abbrev pub acting : Event → Role
acting (Send role place value) = role
acting (Receive role) = role

-- a step of the machines as an act of that role's program
abbrev pub act_of : (machines : List Machine_data) (c : Configuration) (event : Event) (d : Configuration) → Step machines c event d → ProgramAct
act_of machines c (Send role place value) d step = Sent step.peer (record { label = step.arm.label; value = value })
act_of machines c (Receive role) d step = Received step.peer step.message

-- an act, and the role whose program makes it
pub record RoleAct : Type 0 where
  pub role : Role
  pub act : ProgramAct

-- the acts, one after the other, lead from one moment to another
abbrev pub MonitoredSteps : List Machine_data → MonitoredSession → List RoleAct → MonitoredSession → Type 0
MonitoredSteps machines s [] t = s ≡ t
MonitoredSteps machines s (a ∷ acts) t = (next : MonitoredSession) × MonitoredStep machines s a.role a.act next × MonitoredSteps machines next acts t

-- some acts lead from the start to this moment
pub record IsMonitored (machines : List Machine_data) (s : MonitoredSession) : Type 0 where
  pub first : MonitoredSession
  pub acts : List RoleAct
  pub begins : BeginsAt machines first
  pub steps : MonitoredSteps machines first acts s

-- what the monitors and the queues show: where each machine stands, and what is under way
abbrev pub shown : MonitoredSession → Configuration
shown s = record { at = λ p. (s.monitor p).at; queue = s.queue }
