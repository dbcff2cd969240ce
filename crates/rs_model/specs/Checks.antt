-- Steps: the first fault of a machine, as the code finds it.
use Rattle.std.specs.Prelude.{ℕ, ◌+◌, List, [], ◌∷◌, length, ◌==◌, ◌&&◌, nat_lt, nat_le, if◌then◌else◌, Option, Some, None}
use Rattle.std.specs.List.{list_any}
use Rattle.rs_model.specs.FirstFailed.{or_later, label_fault}
use Rattle.rs_model.specs.Data.{Machine_data}
use Rattle.rs_model.specs.declared.checks.MachineFault.{MachineFault}
use Rattle.rs_model.specs.declared.checks.MachineFault.TheVariants.{BadNext, NoArms, TwiceLabel, SelfPeer, UnknownPeer}
use Rattle.rs_model.specs.declared.graph.Arm.{Arm}
use Rattle.rs_model.specs.declared.graph.Role.{Role}
use Rattle.rs_model.specs.declared.machines.State.{State}
use Rattle.rs_model.specs.declared.machines.State.TheVariants.{Done, Puts, Takes}
use Rattle.rs_model.specs.Repeats.{first_repeat}

-- an arm of state n leads to no state
abbrev pub nexts_fault : ℕ → ℕ → List Arm → Option MachineFault
nexts_fault n count arms = if list_any (λ a. nat_le count a.next) arms then Some (BadNext n) else None

-- the peer of state n is the machine's own role, or none of the roles
abbrev pub peer_fault : Machine_data → ℕ → ℕ → Role → Option MachineFault
peer_fault m roles n peer =
    if peer.0 == m.role.0 then Some (SelfPeer n) else (if nat_lt peer.0 roles then None else Some (UnknownPeer n))

-- state n has no arms
abbrev pub arms_fault : ℕ → List Arm → Option MachineFault
arms_fault n arms = if length arms == 0 then Some (NoArms n) else None

-- the first fault of state n, which sends or receives
abbrev pub choice_fault : Machine_data → ℕ → ℕ → Role → List Arm → Option MachineFault
choice_fault m roles n peer arms =
    or_later (arms_fault n arms)
    (or_later (peer_fault m roles n peer)
    (or_later (label_fault (λ l. TwiceLabel n l) (first_repeat arms [])) (nexts_fault n (length m.states) arms)))

-- the first fault of state n
abbrev pub state_fault : Machine_data → ℕ → ℕ → State → Option MachineFault
state_fault m roles n Done = None
state_fault m roles n (Puts peer arms) = choice_fault m roles n peer arms
state_fault m roles n (Takes peer arms) = choice_fault m roles n peer arms

-- the first fault of the states from number n on
abbrev pub states_fault : Machine_data → ℕ → List State → ℕ → Option MachineFault
states_fault m roles [] n = None
states_fault m roles (s ∷ ss) n = or_later (state_fault m roles n s) (states_fault m roles ss (n + 1))

-- the start state or the role isn't there
abbrev pub start_fault : Machine_data → ℕ → Option MachineFault
start_fault m roles =
    if nat_lt m.start (length m.states) && nat_lt m.role.0 roles then None else Some (BadNext m.start)

-- the first fault of a machine
abbrev pub machine_fault : Machine_data → ℕ → Option MachineFault
machine_fault m roles = or_later (start_fault m roles) (states_fault m roles m.states 0)
