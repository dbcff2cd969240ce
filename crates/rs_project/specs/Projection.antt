-- Headline: the projection of a protocol onto a role, with full merging: what the role has to do, where it can't tell apart all
-- the nodes at which the session may be. What is left open here is said at `IsProjection`.
use Rattle.std.specs.Prelude.{◌≡◌, ◌≢◌, ◌↔◌, ℕ, ◌<◌, List, [], ◌∷◌, ◌++◌, map, length, Option, Some, None, slice_get, ◌==◌, if◌then◌else◌}
use Rattle.std.specs.List.{AllPairs, Contains, flat_map, list_any}
use Rattle.rs_model.specs.Data.{Protocol_data}
use Rattle.rs_model.specs.declared.graph.Arm.{Arm}
use Rattle.rs_model.specs.declared.graph.Label.{Label}
use Rattle.rs_model.specs.declared.graph.Node.{Node}
use Rattle.rs_model.specs.declared.graph.Node.TheVariants.{Finished, Talk}
use Rattle.rs_model.specs.declared.graph.Role.{Role}
use Rattle.rs_model.specs.declared.machines.State.{State}
use Rattle.rs_model.specs.declared.machines.State.TheVariants.{Done, Puts, Takes}
use Rattle.rs_model.specs.declared.values.Sort.{Sort}
use Rattle.rs_model.specs.Talks.{Talks}
use Rattle.rs_project.specs.Data.{Projection_data}
use Rattle.rs_project.specs.Graph.{LeadsTo, MeetsFirst, MeetsTheEnd, IsUnreached}

-- the set of that number has exactly these talks, in order of their numbers, and is empty if and only if the role may
-- meet the end. So a set with a talk and the end isn't there.
pub record IsSet (sets : List (List ℕ)) (number : ℕ) (Meets : ℕ → Type 0) (Ends : Type 0) : Type 0 where
  pub members : List ℕ
  pub stands : slice_get sets number ≡ Some members
  pub rising : AllPairs (λ (n m : ℕ). n < m) members
  pub talks : (talk : ℕ) → Contains members talk ↔ Meets talk
  pub ends : (members ≡ []) ↔ Ends

-- what an arm says: a label, and the sort of the value that goes with it
pub record LabelChoice : Type 0 where
  pub label : Label
  pub sort : Sort

-- the choice that an arm says
abbrev pub choice_of : Arm → LabelChoice
choice_of arm = record { label = arm.label; sort = arm.sort }

-- those of a node, in the order of its arms
abbrev pub choices_of : Option Node → List LabelChoice
choices_of None = []
choices_of (Some Finished) = []
choices_of (Some (Talk sender receiver arms)) = map choice_of arms

-- the arms have the same labels, and the same sort for each label
abbrev pub HaveSameChoices : List Arm → List Arm → Type 0
HaveSameChoices arms others = (c : LabelChoice) → Contains (map choice_of arms) c ↔ Contains (map choice_of others) c

-- where both have a label, they have it with the same sort
abbrev pub HaveSameSorts : List Arm → List Arm → Type 0
HaveSameSorts arms others =
    (a b : LabelChoice) → Contains (map choice_of arms) a → Contains (map choice_of others) b → a.label ≡ b.label → a.sort ≡ b.sort

-- two talks don't clash: the role can do the one where it can't tell it from the other. It sends in both, to one peer,
-- and has the same choices; or it receives in both, from one peer, and each label has one sort.
pub data Agree (protocol : Protocol_data) (role : Role) (one other : ℕ) : Type 0 where
  BothSend : (peer : Role) (arms others : List Arm) → Talks protocol one role peer arms → Talks protocol other role peer others
      → HaveSameChoices arms others → Agree protocol role one other
  BothReceive : (peer : Role) (arms others : List Arm) → Talks protocol one peer role arms → Talks protocol other peer role others
      → HaveSameSorts arms others → Agree protocol role one other

-- the choices without those whose label is at an earlier one, or among those of the second list
abbrev pub first_choices : List LabelChoice → List LabelChoice → List LabelChoice
first_choices [] earlier = []
first_choices (c ∷ later) earlier =
    if list_any (λ b. b.label.0 == c.label.0) earlier then first_choices later earlier
    else c ∷ first_choices later (earlier ++ (c ∷ []))

-- those of the members, one member after the other, each label once
abbrev pub merged_choices : Protocol_data → List ℕ → List LabelChoice
merged_choices protocol members = first_choices (flat_map (λ n. choices_of (slice_get protocol.nodes n)) members) []

-- some member has an arm with the label that leads to the next node
pub record LeadsOn (protocol : Protocol_data) (members : List ℕ) (label : Label) (next : ℕ) : Type 0 where
  pub talk : ℕ
  pub member : Contains members talk
  pub place : ℕ
  pub step : LeadsTo protocol talk place next
  pub its_label : step.arm.label ≡ label

-- the talk is one of those that the role first meets after the label
abbrev pub MeetsBehind : Protocol_data → Role → List ℕ → Label → ℕ → Type 0
MeetsBehind protocol role members label talk =
    (next : ℕ) × LeadsOn protocol members label next × MeetsFirst protocol role next talk

-- the role may meet the end after the label
abbrev pub EndsBehind : Protocol_data → Role → List ℕ → Label → Type 0
EndsBehind protocol role members label =
    (next : ℕ) × LeadsOn protocol members label next × MeetsTheEnd protocol role next

-- the arms of a state that stands for these members: their choices, and after each label the state of the set of all
-- that the role first meets there
pub record AreArmsOf (protocol : Protocol_data) (role : Role) (sets : List (List ℕ)) (members : List ℕ) (arms : List Arm) : Type 0 where
  pub choices : map choice_of arms ≡ merged_choices protocol members
  pub nexts : (place : ℕ) (arm : Arm) → slice_get arms place ≡ Some arm
      → IsSet sets arm.next (MeetsBehind protocol role members arm.label) (EndsBehind protocol role members arm.label)

-- the state that stands for these members: Done for none, and otherwise the role sends to the peer to whom it sends in all
-- of them, or receives from the peer from whom it receives in all of them
pub data IsStateOf (protocol : Protocol_data) (role : Role) (sets : List (List ℕ)) (members : List ℕ) (state : State) : Type 0 where
  IsDone : members ≡ [] → state ≡ Done → IsStateOf protocol role sets members state
  IsPuts : (peer : Role) (arms : List Arm) → members ≢ []
      → ((talk : ℕ) → Contains members talk → (theirs : List Arm) × Talks protocol talk role peer theirs)
      → state ≡ Puts peer arms → AreArmsOf protocol role sets members arms → IsStateOf protocol role sets members state
  IsTakes : (peer : Role) (arms : List Arm) → members ≢ []
      → ((talk : ℕ) → Contains members talk → (theirs : List Arm) × Talks protocol talk peer role theirs)
      → state ≡ Takes peer arms → AreArmsOf protocol role sets members arms → IsStateOf protocol role sets members state

-- the projection of the protocol onto the role: no node is unreached, state 0 stands for all that the role first meets
-- from the root, no two members of a set clash, and each state is that of its set.
-- Left open are the numbers of the other states (they are numbered as they are found), that each set is found from set
-- 0 and stands once, and the greatest number of states. Where there is no projection, nothing is said of the reason.
pub record IsProjection (protocol : Protocol_data) (role : Role) (projection : Projection_data) : Type 0 where
  pub onto : projection.machine.role ≡ role
  pub start : projection.machine.start ≡ 0
  pub none_unreached : (n : ℕ) → IsUnreached protocol role n → ⊥
  pub first : IsSet projection.sets 0 (MeetsFirst protocol role protocol.root) (MeetsTheEnd protocol role protocol.root)
  pub agree : (number : ℕ) (members : List ℕ) → slice_get projection.sets number ≡ Some members
      → (one other : ℕ) → Contains members one → Contains members other → Agree protocol role one other
  pub all : length projection.machine.states ≡ length projection.sets
  pub states : (number : ℕ) (members : List ℕ) (state : State) → slice_get projection.sets number ≡ Some members
      → slice_get projection.machine.states number ≡ Some state → IsStateOf protocol role projection.sets members state

-- one projection for each role, in role order
pub record AreProjections (protocol : Protocol_data) (projections : List Projection_data) : Type 0 where
  pub many : length projections ≡ protocol.roles
  pub each : (p : ℕ) (projection : Projection_data) → slice_get projections p ≡ Some projection
      → IsProjection protocol (record { 0 = p }) projection
