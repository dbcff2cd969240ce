-- Public: acts over queues that hold at most n messages.
use Rattle.std.specs.Prelude.{ℕ, ◌<◌, length}
use Rattle.rs_model.specs.declared.graph.Role.{Role}
use Rattle.rs_monitor.specs.declared.acts.ProgramAct.{ProgramAct}
use Rattle.rs_monitor.specs.declared.acts.ProgramAct.TheVariants.{Sent, Received}
use Rattle.rs_monitor.specs.Sessions.{Queues}

-- the queue into which the role's act puts its message holds fewer messages than the capacity; a receive needs no room
abbrev pub FindsRoom : ℕ → Queues → Role → ProgramAct → Type 0
FindsRoom capacity queue role (Sent peer message) = length (queue role.0 peer.0) < capacity
FindsRoom capacity queue role (Received peer message) = Unit {0}
