-- Public: what a state shows.
use Rattle.std.specs.Prelude.{◌≡◌, ℕ, ◌^◌, ◌-◌, List, [], Some, None, length, min, slice_get}
use Rattle.rs_model.specs.declared.graph.Arm.{Arm}
use Rattle.rs_model.specs.declared.machines.State.{State}
use Rattle.rs_model.specs.declared.machines.State.TheVariants.{Puts, Takes, Done}
use Rattle.rs_numbered.specs.Kinds.{kind_of}
use Rattle.rs_numbered.specs.Statuses.{CallStatus, Fine, Unknown}

-- the arms of a state
abbrev pub arms_of : State → List Arm
arms_of (Puts peer arms) = arms
arms_of (Takes peer arms) = arms
arms_of Done = []

-- the direction of the state and its peer
abbrev pub Heads : State → ℕ → ℕ → Type 0
Heads (Puts other arms) direction peer = (direction ≡ 1) × (peer ≡ other.0)
Heads (Takes other arms) direction peer = (direction ≡ 2) × (peer ≡ other.0)
Heads Done direction peer = (direction ≡ 3) × (peer ≡ 0)

-- the state has this direction and peer, and so many arms, counted up to the greatest number of 32 bits
abbrev pub Shows : State → ℕ → ℕ → ℕ → Type 0
Shows state direction peer arms = Heads state direction peer × (arms ≡ min (length (arms_of state)) (2 ^ 32 - 1))

-- Fine: the arm at that place has this label, and values of this kind. Unknown: there is no arm, and nothing is written
abbrev pub ArmTells : State → ℕ → ℕ → ℕ → ℕ → ℕ → CallStatus → Type 0
ArmTells state place label_old label kind_old kind Fine = (arm : Arm) × (slice_get (arms_of state) place ≡ Some arm) × (label ≡ arm.label.0) × (kind ≡ kind_of arm.sort)
ArmTells state place label_old label kind_old kind Unknown = (slice_get (arms_of state) place ≡ None) × (label ≡ label_old) × (kind ≡ kind_old)
ArmTells state place label_old label kind_old kind _ = ⊥
