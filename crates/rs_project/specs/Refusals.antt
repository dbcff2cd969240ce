-- Public: why a protocol has no projection onto a role: the first reason in the order of the work.
use Rattle.std.specs.Prelude.{◌≡◌, ◌⊎◌, ◌↔◌, ℕ, ◌<◌, ◌≤◌, true, List, [], ◌∷◌, ◌++◌, length, Option, Some, None, slice_get}
use Rattle.std.specs.List.{AllPairs, Contains}
use Rattle.rs_model.specs.declared.limits.TheConstants.{MOST_STATES}
use Rattle.rs_model.specs.Data.{Protocol_data}
use Rattle.rs_model.specs.declared.graph.Role.{Role}
use Rattle.rs_project.specs.Data.{Front_data}
use Rattle.rs_project.specs.Graph.{MeetsFirst, MeetsTheEnd, IsUnreached}
use Rattle.rs_graph.specs.Order.{Once, Worked}
use Rattle.rs_project.specs.Projection.{LabelChoice, Agree, merged_choices, MeetsBehind, EndsBehind}
use Rattle.rs_project.specs.declared.projecting.ProjFault.{ProjFault}
use Rattle.rs_project.specs.declared.projecting.ProjFault.TheVariants.{Unmergeable, Unreached, TooManyStates, NoMemory}

-- the front has exactly these talks, in order of their numbers, and the end or not
pub record IsFront (front : Front_data) (Meets : ℕ → Type 0) (Ends : Type 0) : Type 0 where
  pub rising : AllPairs (λ (n m : ℕ). n < m) front.talks
  pub talks : (talk : ℕ) → Contains front.talks talk ↔ Meets talk
  pub ends : (front.ends ≡ true) ↔ Ends

-- the front of that number is this one
pub record IsFrontAt (fronts : List Front_data) (number : ℕ) (Meets : ℕ → Type 0) (Ends : Type 0) : Type 0 where
  pub front : Front_data
  pub stands : slice_get fronts number ≡ Some front
  pub is_front : IsFront front Meets Ends

-- no two members of the front clash: all talks agree, and where there is a talk there isn't the end
pub record Merges (protocol : Protocol_data) (role : Role) (front : Front_data) : Type 0 where
  pub agree : (one other : ℕ) → Contains front.talks one → Contains front.talks other → Agree protocol role one other
  pub alone : front.ends ≡ true → front.talks ≡ []

-- the numbers are those of the fronts after the choices of these talks, one by one
abbrev pub AreBehind : Protocol_data → Role → List Front_data → List ℕ → List LabelChoice → List ℕ → Type 0
AreBehind protocol role fronts talks [] [] = Unit {0}
AreBehind protocol role fronts talks [] (n ∷ ns) = ⊥
AreBehind protocol role fronts talks (c ∷ cs) [] = ⊥
AreBehind protocol role fronts talks (c ∷ cs) (n ∷ ns) =
    IsFrontAt fronts n (MeetsBehind protocol role talks c.label) (EndsBehind protocol role talks c.label)
    × AreBehind protocol role fronts talks cs ns

-- the work reaches this front: `fronts` are those that were found, in the order in which they were found, at most
-- 1,024. On the first of them, as many as there are rows, the work is done: their members don't clash, and the row has
-- the numbers of the fronts after the choices. It continues with this front, where `row` is done.
pub record ComesTo (protocol : Protocol_data) (role : Role) (fronts : List Front_data) (rows : List (List ℕ)) (row : List ℕ) (front : Front_data) : Type 0 where
  pub first : IsFrontAt fronts 0 (MeetsFirst protocol role protocol.root) (MeetsTheEnd protocol role protocol.root)
  pub once : Once fronts
  pub bounded : length fronts ≤ MOST_STATES
  pub order : Worked 0 1 (rows ++ (row ∷ [])) (length fronts)
  pub merged : (k : ℕ) (f : Front_data) (r : List ℕ) → slice_get fronts k ≡ Some f → slice_get rows k ≡ Some r → Merges protocol role f
  pub behind : (k : ℕ) (f : Front_data) (r : List ℕ) → slice_get fronts k ≡ Some f → slice_get rows k ≡ Some r
      → AreBehind protocol role fronts f.talks (merged_choices protocol f.talks) r
  pub here : slice_get fronts (length rows) ≡ Some front

-- these are the two members that clash first: the later one is the least that clashes with an earlier one, and the
-- earlier one the least that clashes with it. The end comes after all talks, as None.
pub data FirstClash (protocol : Protocol_data) (role : Role) (front : Front_data) (a : ℕ) : Option ℕ → Type 0 where
  OfTalks : (b i j : ℕ) → slice_get front.talks i ≡ Some a → slice_get front.talks j ≡ Some b → i < j
      → (Agree protocol role a b → ⊥)
      → ((c d h k : ℕ) → slice_get front.talks h ≡ Some c → slice_get front.talks k ≡ Some d → h < k
      → (k < j) ⊎ ((k ≡ j) × (h < i)) → Agree protocol role c d)
      → FirstClash protocol role front a (Some b)
  OfTheEnd : front.ends ≡ true → slice_get front.talks 0 ≡ Some a
      → ((c d h k : ℕ) → slice_get front.talks h ≡ Some c → slice_get front.talks k ≡ Some d → h < k → Agree protocol role c d)
      → FirstClash protocol role front a None

-- the work reaches a front of which two members clash, and these are the first
pub record ComesToAClash (protocol : Protocol_data) (role : Role) (a : ℕ) (b : Option ℕ) : Type 0 where
  pub fronts : List Front_data
  pub rows : List (List ℕ)
  pub front : Front_data
  pub comes : ComesTo protocol role fronts rows [] front
  pub clash : FirstClash protocol role front a b

-- the work reaches a choice, and the front after it is none of the 1,024 that were found
pub record ComesToTooMany (protocol : Protocol_data) (role : Role) : Type 0 where
  pub fronts : List Front_data
  pub rows : List (List ℕ)
  pub row : List ℕ
  pub front : Front_data
  pub comes : ComesTo protocol role fronts rows row front
  pub many : length fronts ≡ MOST_STATES
  pub merges : Merges protocol role front
  pub before : List LabelChoice
  pub choice : LabelChoice
  pub after : List LabelChoice
  pub choices : merged_choices protocol front.talks ≡ before ++ (choice ∷ after)
  pub behind : AreBehind protocol role fronts front.talks before row
  pub another : (n : ℕ) → IsFrontAt fronts n (MeetsBehind protocol role front.talks choice.label) (EndsBehind protocol role front.talks choice.label) → ⊥

-- no node is unreached
abbrev pub NoneUnreached : Protocol_data → Role → Type 0
NoneUnreached protocol role = (n : ℕ) → IsUnreached protocol role n → ⊥

-- why there is no projection. That some node is unreached comes before all else.
abbrev pub FirstRefusal : Protocol_data → Role → ProjFault → Type 0
FirstRefusal protocol role (Unreached r node) =
    (r ≡ role) × IsUnreached protocol role node × ((n : ℕ) → IsUnreached protocol role n → node ≤ n)
FirstRefusal protocol role (Unmergeable r a b) = (r ≡ role) × NoneUnreached protocol role × ComesToAClash protocol role a b
FirstRefusal protocol role (TooManyStates r) = (r ≡ role) × NoneUnreached protocol role × ComesToTooMany protocol role
FirstRefusal protocol role NoMemory = ⊥
