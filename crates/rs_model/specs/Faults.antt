-- Public: the first fault of a machine, and what each fault says.
use Rattle.std.specs.Prelude.{◌≡◌, ◌⊎◌, ℕ, ◌+◌, ◌<◌, ◌≤◌, List, [], ◌∷◌, ◌++◌, length, slice_get, not, ◌==◌, nat_lt, Option, Some}
use Rattle.rs_model.specs.FirstFailed.{Test, first_failed, label_tests, next_tests}
use Rattle.rs_model.specs.Data.{Machine_data}
use Rattle.rs_model.specs.declared.checks.MachineFault.{MachineFault}
use Rattle.rs_model.specs.declared.checks.MachineFault.TheVariants.{BadNext, NoArms, TwiceLabel, SelfPeer, UnknownPeer}
use Rattle.rs_model.specs.declared.graph.Arm.{Arm}
use Rattle.rs_model.specs.declared.graph.Label.{Label}
use Rattle.rs_model.specs.declared.graph.Role.{Role}
use Rattle.rs_model.specs.declared.machines.State.{State}
use Rattle.rs_model.specs.declared.machines.State.TheVariants.{Done, Puts, Takes}

-- the tests of state s that puts or takes: some arms, another peer, one of the roles, all labels, all nexts
abbrev pub choice_tests : Machine_data → ℕ → ℕ → Role → List Arm → List (Test MachineFault)
choice_tests m roles s peer arms =
    record { passes = nat_lt 0 (length arms); fault = NoArms s }
    ∷ record { passes = not (peer.0 == m.role.0); fault = SelfPeer s }
    ∷ record { passes = nat_lt peer.0 roles; fault = UnknownPeer s }
    ∷ (label_tests (λ l. TwiceLabel s l) arms [] ++ next_tests (BadNext s) (length m.states) arms)

-- those of state s, of any kind
abbrev pub state_tests : Machine_data → ℕ → ℕ → State → List (Test MachineFault)
state_tests m roles s Done = []
state_tests m roles s (Puts peer arms) = choice_tests m roles s peer arms
state_tests m roles s (Takes peer arms) = choice_tests m roles s peer arms

-- those of the states in order, the first of which has the number s
abbrev pub states_tests : Machine_data → ℕ → List State → ℕ → List (Test MachineFault)
states_tests m roles [] s = []
states_tests m roles (state ∷ later) s = state_tests m roles s state ++ states_tests m roles later (s + 1)

-- all tests of a machine, in order: the start, the role, and those of the states
abbrev pub tests_of : Machine_data → ℕ → List (Test MachineFault)
tests_of m roles =
    record { passes = nat_lt m.start (length m.states); fault = BadNext m.start }
    ∷ record { passes = nat_lt m.role.0 roles; fault = BadNext m.start }
    ∷ states_tests m roles m.states 0

-- the fault of the first test that the machine doesn't pass
unfoldable pub first_fault : Machine_data → ℕ → Option MachineFault
first_fault m roles = first_failed (tests_of m roles)

-- state s puts to the peer, or takes from it, with these arms
abbrev pub Chooses : Machine_data → ℕ → Role → List Arm → Type 0
Chooses m s peer arms =
    (slice_get m.states s ≡ Some (Puts peer arms)) ⊎ (slice_get m.states s ≡ Some (Takes peer arms))

-- the label stands at two places of the arms
pub record StandsTwice (arms : List Arm) (label : Label) : Type 0 where
  pub first : ℕ
  pub second : ℕ
  pub one : Arm
  pub other : Arm
  pub order : first < second
  pub at_first : slice_get arms first ≡ Some one
  pub at_second : slice_get arms second ≡ Some other
  pub its_first : one.label ≡ label
  pub its_second : other.label ≡ label

-- an arm of state s leads to no state
pub record LeadsOut (machine : Machine_data) (s : ℕ) : Type 0 where
  pub peer : Role
  pub arms : List Arm
  pub place : ℕ
  pub arm : Arm
  pub chooses : Chooses machine s peer arms
  pub stands : slice_get arms place ≡ Some arm
  pub out : length machine.states ≤ arm.next

-- what each fault says of the machine
abbrev pub Blames : Machine_data → ℕ → MachineFault → Type 0
Blames m roles (BadNext s) =
    ((s ≡ m.start) × ((length m.states ≤ m.start) ⊎ (roles ≤ m.role.0))) ⊎ LeadsOut m s
Blames m roles (NoArms s) = (peer : Role) × Chooses m s peer []
Blames m roles (TwiceLabel s label) = (peer : Role) × (arms : List Arm) × Chooses m s peer arms × StandsTwice arms label
Blames m roles (SelfPeer s) = (arms : List Arm) × Chooses m s m.role arms
Blames m roles (UnknownPeer s) = (peer : Role) × (arms : List Arm) × Chooses m s peer arms × (roles ≤ peer.0)
