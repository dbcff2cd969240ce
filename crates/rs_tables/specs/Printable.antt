-- Public: which machines a table can say, with given names.
use Rattle.std.specs.Prelude.{◌≡◌, ℕ, ◌<◌, ◌≤◌, List, [], length, map, eqb}
use Rattle.std.specs.List.{All, flat_map}
use Rattle.std.specs.Set.{distinct_count}
use Rattle.rs_model.specs.Data.{Machine_data, Names_data}
use Rattle.rs_model.specs.declared.graph.Arm.{Arm}
use Rattle.rs_model.specs.declared.graph.Role.{Role}
use Rattle.rs_model.specs.declared.limits.TheConstants.{MOST_LABELS, MOST_NUMBER, MOST_STATES}
use Rattle.rs_model.specs.declared.machines.State.{State}
use Rattle.rs_model.specs.declared.machines.State.TheVariants as state

-- its label has a name, and its number isn't above 4,294,967,295
pub record IsArmTabled (names : Names_data) (a : Arm) : Type 0 where
  pub label : a.label.0 < length names.labels
  pub next : a.next ≤ MOST_NUMBER

-- the peer has a name, and there are arms
pub record IsChoiceTabled (names : Names_data) (peer : Role) (arms : List Arm) : Type 0 where
  pub has_name : peer.0 < length names.roles
  pub some : 1 ≤ length arms
  pub each : All (IsArmTabled names) arms

-- a state can be a row
abbrev pub IsStateTabled : Names_data → State → Type 0
IsStateTabled names state.Done = Unit {0}
IsStateTabled names (state.Puts peer arms) = IsChoiceTabled names peer arms
IsStateTabled names (state.Takes peer arms) = IsChoiceTabled names peer arms

-- the arms of a state
abbrev pub arms_of : State → List Arm
arms_of state.Done = []
arms_of (state.Puts peer arms) = arms
arms_of (state.Takes peer arms) = arms

-- the numbers of the labels, state by state
abbrev pub label_numbers : Machine_data → List ℕ
label_numbers m = map (λ (a : Arm). a.label.0) (flat_map arms_of m.states)

-- it starts at 0 and has 1 to 1,024 states that can be rows, its role has a name, and there are at most 256 different labels
pub record IsTabled (names : Names_data) (m : Machine_data) : Type 0 where
  pub start : m.start ≡ 0
  pub some : 1 ≤ length m.states
  pub bounded : length m.states ≤ MOST_STATES
  pub role : m.role.0 < length names.roles
  pub states : All (IsStateTabled names) m.states
  pub few_labels : distinct_count eqb (label_numbers m) ≤ MOST_LABELS
