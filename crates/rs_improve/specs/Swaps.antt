-- Public: a swap: the sends that follow all arms of a receive are made before it.
use Rattle.std.specs.Prelude.{◌≡◌, ℕ, ◌==◌, suc, ◌+◌, ◌<◌, ◌≤◌, List, [], ◌∷◌, if◌then◌else◌, length, map, Some, slice_get, slice_index_or}
use Rattle.rs_model.specs.Data.{Machine_data}
use Rattle.rs_model.specs.declared.limits.TheConstants.{MOST_STATES}
use Rattle.rs_model.specs.declared.graph.Arm.{Arm}
use Rattle.rs_model.specs.declared.graph.Role.{Role}
use Rattle.rs_model.specs.declared.machines.State.{State}
use Rattle.rs_model.specs.declared.machines.State.TheVariants.{Done, Puts, Takes}
use Rattle.rs_graph.specs.Discovery.{IsDiscovery, Reached}
use Rattle.rs_graph.specs.Lists.{Among}
use Rattle.rs_graph.specs.Order.{Once}
use Rattle.rs_improve.specs.declared.swaps.SwapAnswer.{SwapAnswer}
use Rattle.rs_improve.specs.declared.swaps.SwapAnswer.TheVariants.{Nothing, TooManyStates, To}
use Rattle.rs_improve.specs.declared.swaps.SwappedState.{SwappedState}
use Rattle.rs_improve.specs.declared.swaps.SwappedState.TheVariants.{New, Old}

-- both have the same labels and sorts, in the same order
pub record HaveSameMessages (ours theirs : List Arm) : Type 0 where
  pub labels : map (λ (a : Arm). a.label) ours ≡ map (λ (a : Arm). a.label) theirs
  pub sorts : map (λ (a : Arm). a.sort) ours ≡ map (λ (a : Arm). a.sort) theirs

-- the number of a state that receives, from whom and what, and to whom and what all states after it send
pub record Exchange_data : Type 0 where
  pub state : ℕ
  pub from : Role
  pub takes : List Arm
  pub to : Role
  pub puts : List Arm

-- the arm leads to a state that sends these messages to the peer
pub record LeadsToSends (machine : Machine_data) (to : Role) (puts : List Arm) (arm : Arm) : Type 0 where
  pub own : List Arm
  pub stands : slice_get machine.states arm.next ≡ Some (Puts to own)
  pub same : HaveSameMessages own puts

-- the state is such a receive, all of whose arms lead to sends of the same messages to one peer; the first leads to these very arms
pub record IsExchange (machine : Machine_data) (x : Exchange_data) : Type 0 where
  pub stands : slice_get machine.states x.state ≡ Some (Takes x.from x.takes)
  pub first : Arm
  pub begins : slice_get x.takes 0 ≡ Some first
  pub sends : slice_get machine.states first.next ≡ Some (Puts x.to x.puts)
  pub each : (arm : Arm) → Among x.takes arm → LeadsToSends machine x.to x.puts arm

-- the state can be swapped
abbrev pub IsSwappable : Machine_data → ℕ → Type 0
IsSwappable machine state = (x : Exchange_data) × IsExchange machine x × (x.state ≡ state)

-- no state of a less number can be swapped
pub record IsLeastExchange (machine : Machine_data) (x : Exchange_data) : Type 0 where
  pub is_exchange : IsExchange machine x
  pub least : (state : ℕ) → state < x.state → IsSwappable machine state → ⊥

-- no state can be swapped
abbrev pub HasNoExchange : Machine_data → Type 0
HasNoExchange machine = (state : ℕ) → IsSwappable machine state → ⊥

-- the arms of a state
abbrev pub arms_of : State → List Arm
arms_of Done = []
arms_of (Puts peer arms) = arms
arms_of (Takes peer arms) = arms

-- the state with this number, with what its arms lead to in the machine before
abbrev pub state_before : Machine_data → ℕ → State
state_before machine n = slice_index_or machine.states n Done

-- after the nth send that was put ahead: where the nth send after this arm led
abbrev pub next_behind : Machine_data → ℕ → Arm → SwappedState
next_behind machine n arm = slice_index_or (map (λ (a : Arm). Old a.next) (arms_of (state_before machine arm.next))) n (Old 0)

-- the numbers from n on, one for each arm
abbrev pub arm_numbers : ℕ → List Arm → List ℕ
arm_numbers n [] = []
arm_numbers n (arm ∷ arms) = n ∷ arm_numbers (n + 1) arms

-- a state of the swapped machine: the receive now sends, a receive of the same messages follows each send, and each other state is as it was; what its arms lead to is said apart
abbrev pub swapped_state : Machine_data → Exchange_data → SwappedState → State
swapped_state machine x (Old n) = if n == x.state then Puts x.to x.puts else state_before machine n
swapped_state machine x (New n) = Takes x.from x.takes

-- what the arms of a state of the swapped machine lead to, in order
abbrev pub swapped_nexts : Machine_data → Exchange_data → SwappedState → List SwappedState
swapped_nexts machine x (Old n) = if n == x.state then map New (arm_numbers 0 x.puts) else map (λ (a : Arm). Old a.next) (arms_of (state_before machine n))
swapped_nexts machine x (New n) = map (next_behind machine n) x.takes

-- the arms with these next states, in order
abbrev pub arms_to : List Arm → List ℕ → List Arm
arms_to [] nexts = []
arms_to (arm ∷ arms) [] = []
arms_to (arm ∷ arms) (next ∷ nexts) = record arm { next = next } ∷ arms_to arms nexts

-- the state with these next states
abbrev pub state_to : State → List ℕ → State
state_to Done nexts = Done
state_to (Puts peer arms) nexts = Puts peer (arms_to arms nexts)
state_to (Takes peer arms) nexts = Takes peer (arms_to arms nexts)

-- the machine has the states of the swapped machine that can be reached from its start, numbered in order of discovery: by states in order of number, and by the arms of each in order
pub record IsSwapped (machine : Machine_data) (x : Exchange_data) (swapped : Machine_data) : Type 0 where
  pub role : swapped.role ≡ machine.role
  pub start : swapped.start ≡ 0
  pub found : List SwappedState
  pub rows : List (List ℕ)
  pub discovery : IsDiscovery (swapped_nexts machine x) (Old machine.start) found rows
  pub many : length swapped.states ≡ length found
  pub each : (k : ℕ) (s : SwappedState) (row : List ℕ) → slice_get found k ≡ Some s → slice_get rows k ≡ Some row
      → slice_get swapped.states k ≡ Some (state_to (swapped_state machine x s) row)

-- the one machine is the other with the least state swapped that can be
pub record SwapsTo (machine swapped : Machine_data) : Type 0 where
  pub exchange : Exchange_data
  pub least : IsLeastExchange machine exchange
  pub is_swapped : IsSwapped machine exchange swapped

-- the machine with the least state swapped has more states than the limit: more than the limit of different ones are listed
pub record SwapsToMoreThan (machine : Machine_data) (limit : ℕ) : Type 0 where
  pub exchange : Exchange_data
  pub least : IsLeastExchange machine exchange
  pub found : List SwappedState
  pub once : Once found
  pub each : (s : SwappedState) → Among found s → Reached (swapped_nexts machine exchange) (Old machine.start) s
  pub many : limit < length found

-- swapped n times
pub data SwapsToIn : ℕ → Machine_data → Machine_data → Type 0 where
  AsItIs : (machine : Machine_data) → SwapsToIn 0 machine machine
  OnceMore : (n : ℕ) (machine before after : Machine_data) → SwapsToIn n machine before → SwapsTo before after → SwapsToIn (suc n) machine after

-- what is answered for a swap
abbrev pub IsSwapAnswer : Machine_data → SwapAnswer → Type 0
IsSwapAnswer machine Nothing = HasNoExchange machine
IsSwapAnswer machine TooManyStates = SwapsToMoreThan machine MOST_STATES
IsSwapAnswer machine (To swapped) = SwapsTo machine swapped × (length swapped.states ≤ MOST_STATES)
