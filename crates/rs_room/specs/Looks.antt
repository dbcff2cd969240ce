-- Steps: what `Bounded` looks at before a step.
use Rattle.std.specs.Prelude.{ℕ, Bool, false, nat_le, nat_lt, ◌&&◌, List, Option, Some, None, length, slice_get, if◌then◌else◌}
use Rattle.rs_model.specs.Sorts.{fits}
use Rattle.rs_model.specs.declared.graph.Arm.{Arm}
use Rattle.rs_model.specs.declared.graph.Role.{Role}
use Rattle.rs_model.specs.declared.machines.State.{State}
use Rattle.rs_model.specs.declared.machines.State.TheVariants.{Done, Puts, Takes}
use Rattle.rs_model.specs.declared.values.Value.{Value}
use Rattle.rs_core.specs.declared.messages.Event.{Event}
use Rattle.rs_core.specs.declared.messages.Event.TheVariants.{Send, Receive}
use Rattle.rs_core.specs.declared.messages.Message.{Message}
use Rattle.rs_core.specs.declared.messages.StepFault.{StepFault}
use Rattle.rs_core.specs.declared.messages.StepFault.TheVariants as step
use Rattle.rs_core.specs.Configurations.{state_at}
use Rattle.rs_core.specs.Core.{configuration_of}
use Rattle.rs_room.specs.Rings.{Bounded_data}
use Rattle.rs_room.specs.declared.rings.BoundedFault.{BoundedFault}
use Rattle.rs_room.specs.declared.rings.BoundedFault.TheVariants as bounded

-- whether the arm exists and the value is of its sort
abbrev pub is_right : Option Arm → Value → Bool
is_right None value = false
is_right (Some arm) value = fits value arm.sort

-- the peer to whom a send by the arm would go that finds the ring full
abbrev pub full_by : ℕ → Option State → ℕ → Value → (ℕ → List Message) → Option Role
full_by capacity None arm value out = None
full_by capacity (Some Done) arm value out = None
full_by capacity (Some (Takes peer arms)) arm value out = None
full_by capacity (Some (Puts peer arms)) arm value out =
    if is_right (slice_get arms arm) value && nat_le capacity (length (out peer.0)) then Some peer else None

-- the peer to whom the event would send that finds the ring full
abbrev pub full_ring : Bounded_data → Event → Option Role
full_ring b (Receive role) = None
full_ring b (Send role arm value) =
    full_by b.capacity (state_at b.core.machines (configuration_of b.core) role.0) arm value (λ q. (configuration_of b.core).queue role.0 q)

-- from whom to whom a role in that state takes
abbrev pub taking_by : Option State → Role → Option (Role × Role)
taking_by None role = None
taking_by (Some Done) role = None
taking_by (Some (Puts peer arms)) role = None
taking_by (Some (Takes peer arms)) role = Some (peer, role)

-- from whom to whom the event takes, where it is a receive
abbrev pub pair_of_receive : Bounded_data → Event → Option (Role × Role)
pair_of_receive b (Send role arm value) = None
pair_of_receive b (Receive role) = taking_by (state_at b.core.machines (configuration_of b.core) role.0) role

-- whether a role in that state can go on: its ring has room, or there is a message for it
abbrev pub moves_by : ℕ → Option State → (ℕ → List Message) → (ℕ → List Message) → Bool
moves_by capacity None out back = false
moves_by capacity (Some Done) out back = false
moves_by capacity (Some (Puts peer arms)) out back = nat_lt (length (out peer.0)) capacity
moves_by capacity (Some (Takes peer arms)) out back = nat_lt 0 (length (back peer.0))

-- whether role p can go on
abbrev pub can_move : Bounded_data → ℕ → Bool
can_move b p =
    moves_by b.capacity (state_at b.core.machines (configuration_of b.core) p) (λ q. (configuration_of b.core).queue p q) (λ q. (configuration_of b.core).queue q p)

-- the fault of a step over unbounded queues, as one over rings
abbrev pub within : StepFault → BoundedFault
within step.NotSending = bounded.NotSending
within step.NoArm = bounded.NoArm
within step.WrongSort = bounded.WrongSort
within step.NotReceiving = bounded.NotReceiving
within step.QueueEmpty = bounded.QueueEmpty
within step.NoMemory = bounded.NoMemory
