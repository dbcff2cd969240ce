-- Steps: who acts next so that a receiver reaches its message: the receiver itself if it can, and otherwise the role for
-- which it waits, or the role for which that one waits, and so on.
use Rattle.std.specs.Prelude.{◌≡◌, ℕ, zero, suc, ◌<◌, Bool, false, nat_eq, nat_lt, ◌&&◌, List, [], ◌∷◌, Option, Some, None, length, if◌then◌else◌}
use Rattle.rs_model.specs.Data.{Machine_data}
use Rattle.rs_model.specs.declared.graph.Role.{Role}
use Rattle.rs_model.specs.declared.machines.State.{State}
use Rattle.rs_model.specs.declared.machines.State.TheVariants.{Done, Puts, Takes}
use Rattle.rs_model.specs.declared.values.Sort.TheVariants as sort
use Rattle.rs_model.specs.declared.values.Value.TheVariants as value
use Rattle.rs_model.specs.Values.{empty_value}
use Rattle.rs_core.specs.declared.messages.Event.{Event}
use Rattle.rs_core.specs.declared.messages.Event.TheVariants.{Send, Receive}
use Rattle.rs_core.specs.declared.messages.Message.{Message}
use Rattle.rs_core.specs.Configurations.{Configuration, Step, state_at}
use Rattle.rs_core.specs.Safety.{CanMove}

-- for whom a role in that state waits: for the state's peer, if there is no message from it
abbrev pub waits_by : Option State → (ℕ → List Message) → Option Role
waits_by None back = None
waits_by (Some Done) back = None
waits_by (Some (Puts peer arms)) back = None
waits_by (Some (Takes peer arms)) back = if nat_lt 0 (length (back peer.0)) then None else Some peer

-- for whom role p waits
abbrev pub waits_for : List Machine_data → Configuration → ℕ → Option Role
waits_for machines c p = waits_by (state_at machines c p) (λ q. c.queue q p)

-- n waits lead from one role to another, which doesn't wait
abbrev pub Chain : List Machine_data → Configuration → ℕ → ℕ → ℕ → Type 0
Chain machines c zero p last = (waits_for machines c p ≡ None) × (p ≡ last)
Chain machines c (suc many) p last = (peer : Role) × (waits_for machines c p ≡ Some peer) × Chain machines c many peer.0 last

-- some waits lead from one role to another
abbrev pub WaitsLeadOn : List Machine_data → Configuration → ℕ → ℕ → Type 0
WaitsLeadOn machines c p last = (many : ℕ) × Chain machines c many p last

-- the waits lead to a role that is one of these and can go on
abbrev pub CanLeadOn : List Machine_data → Configuration → ℕ → Type 0
CanLeadOn machines c p = (last : ℕ) × WaitsLeadOn machines c p last × (last < length machines) × CanMove machines c last

-- what a role in that state does: it sends by its first arm, or it receives
abbrev pub event_by : Option State → Role → Option Event
event_by None role = None
event_by (Some Done) role = None
event_by (Some (Puts peer [])) role = None
event_by (Some (Puts peer (arm ∷ arms))) role = Some (Send role 0 (empty_value arm.sort))
event_by (Some (Takes peer arms)) role = Some (Receive role)

-- what the role does
abbrev pub event_of : List Machine_data → Configuration → Role → Option Event
event_of machines c role = event_by (state_at machines c role.0) role

-- whether a receive in that state takes from the sender
abbrev pub takes_by : Option State → Role → Bool
takes_by None sender = false
takes_by (Some Done) sender = false
takes_by (Some (Puts peer arms)) sender = false
takes_by (Some (Takes peer arms)) sender = nat_eq peer.0 sender.0

-- whether the role's receive takes a message of the sender to the receiver
abbrev pub takes_from : List Machine_data → Configuration → Role → Role → Role → Bool
takes_from machines c role sender receiver = nat_eq role.0 receiver.0 && takes_by (state_at machines c role.0) sender

-- the event leads from c to d, and is the act of the role to which the waits lead from the receiver; it is said whether it
-- takes a message of the sender to the receiver
pub record Advances (machines : List Machine_data) (sender receiver : Role) (c d : Configuration) (event : Event) (takes : Bool) : Type 0 where
  pub role : Role
  pub leads : WaitsLeadOn machines c receiver.0 role.0
  pub acts : event_of machines c role ≡ Some event
  pub step : Step machines c event d
  pub tells : takes ≡ takes_from machines c role sender receiver
