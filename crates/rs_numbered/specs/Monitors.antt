-- Public: acts of programs, by numbers, through a monitor.
use Rattle.std.specs.Prelude.{◌≡◌, ℕ, nat_le, ◌&&◌, true, false, Bool, Option, Some, None}
use Rattle.rs_core.specs.declared.messages.Message.{Message}
use Rattle.rs_model.specs.declared.graph.Label.{Label}
use Rattle.rs_model.specs.declared.graph.Role.{Role}
use Rattle.rs_model.specs.declared.values.Value.{Value}
use Rattle.rs_monitor.specs.Acts.{IsActOf}
use Rattle.rs_monitor.specs.declared.acts.ProgramAct.{ProgramAct}
use Rattle.rs_monitor.specs.declared.acts.ProgramAct.TheVariants.{Sent, Received}
use Rattle.rs_monitor.specs.Monitors.{Monitor_data, LetsThrough, state_now}
use Rattle.rs_monitor.specs.Refusals.{IsRefusedFor}
use Rattle.rs_monitor.specs.declared.acts.Refusal.{Refusal}
use Rattle.rs_numbered.specs.Kinds.{stand_in}
use Rattle.rs_numbered.specs.Statuses.{CallStatus, Fine, NoMemory, Unknown, status_of_refusal}

abbrev with_value : ℕ → ℕ → Option Value → Option (Role × Label × Value)
with_value peer label None = None
with_value peer label (Some value) = Some (record { 0 = peer }, record { 0 = label }, value)

abbrev where_numbered : Bool → ℕ → ℕ → Option Value → Option (Role × Label × Value)
where_numbered true peer label value = with_value peer label value
where_numbered false peer label value = None

-- the peer, the label and a value of the kind, where the numbers are those of such
abbrev pub message_of : ℕ → ℕ → ℕ → ℕ → Option (Role × Label × Value)
message_of peer label kind natural = where_numbered (nat_le peer 255 && nat_le label 65535) peer label (stand_in kind natural)

-- the send of a message
abbrev pub sent_act : Role × Label × Value → ProgramAct
sent_act m = Sent m.0 (record { label = m.1; value = m.2 })

-- the receive of a message
abbrev pub received_act : Role × Label × Value → ProgramAct
received_act m = Received m.0 (record { label = m.1; value = m.2 })

-- the act is refused for the reason that the status tells
abbrev pub RefusedBy : Monitor_data → ProgramAct → CallStatus → Type 0
RefusedBy monitor act status = (refusal : Refusal) × (status ≡ status_of_refusal refusal) × IsRefusedFor (state_now monitor) act refusal

-- Fine: the act is one of the machine's in its state. Unknown: the numbers name no message. NoMemory: memory was refused for a
-- list. Else the act is refused, for this reason
abbrev pub MayTells : (Role × Label × Value → ProgramAct) → Monitor_data → ℕ → Option (Role × Label × Value) → CallStatus → Type 0
MayTells act monitor kind message NoMemory = kind ≡ 5
MayTells act monitor kind (Some m) Fine = (next : ℕ) × IsActOf (state_now monitor) (act m) next
MayTells act monitor kind (Some m) status = RefusedBy monitor (act m) status
MayTells act monitor kind None Unknown = Unit {0}
MayTells act monitor kind None _ = ⊥

-- Fine: the act is let through. Else nothing has changed, and the act is refused for this reason, or the numbers name no message, or
-- memory was refused for a list
abbrev pub ActTells : (Role × Label × Value → ProgramAct) → Monitor_data → ℕ → Option (Role × Label × Value) → Monitor_data → CallStatus → Type 0
ActTells act old kind message new NoMemory = (new ≡ old) × (kind ≡ 5)
ActTells act old kind (Some m) new Fine = LetsThrough old (act m) new
ActTells act old kind (Some m) new status = (new ≡ old) × RefusedBy old (act m) status
ActTells act old kind None new Unknown = new ≡ old
ActTells act old kind None new _ = ⊥
