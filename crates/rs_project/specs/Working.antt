-- Steps: what the work on the states keeps, and how it ends.
use Rattle.std.specs.Prelude.{◌≡◌, ◌≢◌, ◌⊎◌, ℕ, ◌<◌, ◌≤◌, true, List, [], ◌∷◌, ◌++◌, map, length, Option, Some, slice_get, slice_index_or, suc}
use Rattle.std.specs.List.{Contains, flat_map}
use Rattle.rs_model.specs.declared.limits.TheConstants.{MOST_STATES}
use Rattle.rs_model.specs.Data.{Protocol_data}
use Rattle.rs_model.specs.declared.graph.Arm.{Arm}
use Rattle.rs_model.specs.declared.graph.Label.{Label}
use Rattle.rs_model.specs.declared.graph.Role.{Role}
use Rattle.rs_model.specs.declared.machines.State.{State}
use Rattle.rs_model.specs.declared.machines.State.TheVariants.{Done, Puts, Takes}
use Rattle.rs_model.specs.Talks.{Talks}
use Rattle.rs_project.specs.Data.{Front_data}
use Rattle.rs_project.specs.Graph.{Involves, MeetsFirst, MeetsTheEnd}
use Rattle.rs_graph.specs.Lists.{Among}
use Rattle.rs_project.specs.Marks.{IsTrueSurvey, StartEnds, StartMeets, Survey_data, labelled_nexts_of}
use Rattle.rs_graph.specs.Order.{Once, Numbered, Worked}
use Rattle.rs_project.specs.Numbered.{nexts_behind}
use Rattle.rs_project.specs.Projection.{LabelChoice, choice_of, choices_of, first_choices, merged_choices, MeetsBehind, EndsBehind}
use Rattle.rs_project.specs.Refusals.{IsFront, IsFrontAt, Merges, AreBehind, FirstClash}
use Rattle.rs_project.specs.declared.projecting.ProjFault.{ProjFault}
use Rattle.rs_project.specs.declared.projecting.ProjFault.TheVariants.{Unmergeable, Unreached, TooManyStates, NoMemory}

-- the front is what the role meets first after the label
abbrev pub IsFrontBehind : Protocol_data → Role → List ℕ → Label → Front_data → Type 0
IsFrontBehind protocol role talks label front = IsFront front (MeetsBehind protocol role talks label) (EndsBehind protocol role talks label)

-- the front is what the role meets first from the starts
abbrev pub IsFrontFrom : Protocol_data → Role → List ℕ → Front_data → Type 0
IsFrontFrom protocol role starts front = IsFront front (StartMeets protocol role starts) (StartEnds protocol role starts)

-- the front is none of these
abbrev pub FrontIsNew : List Front_data → Front_data → Type 0
FrontIsNew fronts front = (k : ℕ) → slice_get fronts k ≡ Some front → ⊥

-- each front keeps its number
abbrev pub KeepsFronts : List Front_data → List Front_data → Type 0
KeepsFronts old new = (n : ℕ) (f : Front_data) → slice_get old n ≡ Some f → slice_get new n ≡ Some f

-- the number of a front in a list, to which it is added where it is new and there is room
abbrev pub AddsFront : List Front_data → Front_data → List Front_data → ℕ → Type 0
AddsFront old front new n =
    ((slice_get old n ≡ Some front) × (new ≡ old))
    ⊎ ((n ≡ length old) × (new ≡ old ++ (front ∷ [])) × (length old < MOST_STATES) × FrontIsNew old front)

-- the fault where there is no room for one more front
abbrev pub NumberFault : Role → List Front_data → Front_data → ProjFault → Type 0
NumberFault role old front (TooManyStates r) = (r ≡ role) × (length old ≡ MOST_STATES) × FrontIsNew old front
NumberFault role old front (Unmergeable r a b) = ⊥
NumberFault role old front (Unreached r n) = ⊥
NumberFault role old front NoMemory = Unit {0}

-- the number of the front from the starts
pub record FindsFrom (protocol : Protocol_data) (role : Role) (old : List Front_data) (starts : List ℕ) (new : List Front_data) (n : ℕ) : Type 0 where
  pub front : Front_data
  pub is_front : IsFrontFrom protocol role starts front
  pub adds : AddsFront old front new n

-- there are 1,024 fronts, and the one from the starts is another one
pub record FindsNoneFrom (protocol : Protocol_data) (role : Role) (old : List Front_data) (starts : List ℕ) : Type 0 where
  pub front : Front_data
  pub is_front : IsFrontFrom protocol role starts front
  pub many : length old ≡ MOST_STATES
  pub new : FrontIsNew old front

-- what a fault of finding the front from the starts means
abbrev pub FaultFrom : Protocol_data → Role → List Front_data → List ℕ → ProjFault → Type 0
FaultFrom protocol role old starts (TooManyStates r) = (r ≡ role) × FindsNoneFrom protocol role old starts
FaultFrom protocol role old starts (Unmergeable r a b) = ⊥
FaultFrom protocol role old starts (Unreached r n) = ⊥
FaultFrom protocol role old starts NoMemory = Unit {0}

-- there are 1,024 fronts, and the one after the label is another one
pub record FindsNone (protocol : Protocol_data) (role : Role) (old : List Front_data) (talks : List ℕ) (label : Label) : Type 0 where
  pub front : Front_data
  pub is_front : IsFrontBehind protocol role talks label front
  pub many : length old ≡ MOST_STATES
  pub new : FrontIsNew old front

-- what is known of the fronts that were found: none is in the list twice, there are at most 1,024, they have only talks of the
-- role, and one without talks has the end
pub record AreFoundFronts (protocol : Protocol_data) (role : Role) (fronts : List Front_data) : Type 0 where
  pub once : Once fronts
  pub bounded : length fronts ≤ MOST_STATES
  pub right : (k : ℕ) (f : Front_data) (t : ℕ) → slice_get fronts k ≡ Some f → Among f.talks t → Involves protocol role t
  pub told : (k : ℕ) (f : Front_data) → slice_get fronts k ≡ Some f → f.talks ≡ [] → f.ends ≡ true

-- the search for the fronts of one projection: what is known of the protocol for the role, and the fronts that were found
pub record Search_data : Type 0 where
  pub survey : Survey_data
  pub fronts : List Front_data

-- a number that is filed at a node, as one more than it is, is that of the front from there
abbrev pub AreFrom : Protocol_data → Role → List Front_data → List ℕ → Type 0
AreFrom protocol role fronts numbers = (n k : ℕ) → slice_index_or numbers n 0 ≡ suc k
    → (front : Front_data) × (slice_get fronts k ≡ Some front) × IsFrontFrom protocol role (n ∷ []) front

-- what holds of the search
pub record IsSearch (search : Search_data) (numbers : List ℕ) : Type 0 where
  pub known : IsTrueSurvey search.survey
  pub found : AreFoundFronts search.survey.protocol search.survey.role search.fronts
  pub from : AreFrom search.survey.protocol search.survey.role search.fronts numbers

-- after these choices come the fronts with the numbers of the row, and those that weren't found before were added
pub record Discovers (protocol : Protocol_data) (role : Role) (old : List Front_data) (talks : List ℕ) (choices : List LabelChoice) (new : List Front_data) (row : List ℕ) : Type 0 where
  pub found : AreFoundFronts protocol role new
  pub kept : KeepsFronts old new
  pub numbered : Numbered (length old) row (length new)
  pub behind : AreBehind protocol role new talks choices row

-- the work on the choices reaches one whose front is none of 1,024
pub record TooManyAt (protocol : Protocol_data) (role : Role) (old : List Front_data) (talks : List ℕ) (choices : List LabelChoice) : Type 0 where
  pub fronts : List Front_data
  pub row : List ℕ
  pub before : List LabelChoice
  pub choice : LabelChoice
  pub after : List LabelChoice
  pub split : choices ≡ before ++ (choice ∷ after)
  pub discovers : Discovers protocol role old talks before fronts row
  pub none : FindsNone protocol role fronts talks choice.label

-- what a fault of the work on the choices means
abbrev pub ArmsFault : Protocol_data → Role → List Front_data → List ℕ → List LabelChoice → ProjFault → Type 0
ArmsFault protocol role old talks choices (TooManyStates r) = (r ≡ role) × TooManyAt protocol role old talks choices
ArmsFault protocol role old talks choices (Unmergeable r a b) = ⊥
ArmsFault protocol role old talks choices (Unreached r n) = ⊥
ArmsFault protocol role old talks choices NoMemory = Unit {0}

-- the talks lead to the starts after the label of the choice, and add no other choice
pub record AreLedBy (protocol : Protocol_data) (talks starts : List ℕ) (choice : LabelChoice) : Type 0 where
  pub led : starts ≡ flat_map (λ t. labelled_nexts_of choice.label (slice_get protocol.nodes t)) talks
  pub no_more : choice ∷ [] ≡ (choice ∷ []) ++ first_choices (flat_map (λ t. choices_of (slice_get protocol.nodes t)) talks) (choice ∷ [])

-- the talks together have this choice alone, and lead to the starts
pub record IsOneChoice (protocol : Protocol_data) (talks starts : List ℕ) (choice : LabelChoice) : Type 0 where
  pub led : starts ≡ flat_map (λ t. labelled_nexts_of choice.label (slice_get protocol.nodes t)) talks
  pub alone : choice ∷ [] ≡ merged_choices protocol talks

-- the role does in the state what it does in all these talks
abbrev pub HasShape : Protocol_data → Role → List ℕ → State → Type 0
HasShape protocol role talks Done = talks ≡ []
HasShape protocol role talks (Puts peer arms) =
    (talks ≢ []) × ((t : ℕ) → Contains talks t → (theirs : List Arm) × Talks protocol t role peer theirs)
    × (map choice_of arms ≡ merged_choices protocol talks)
HasShape protocol role talks (Takes peer arms) =
    (talks ≢ []) × ((t : ℕ) → Contains talks t → (theirs : List Arm) × Talks protocol t peer role theirs)
    × (map choice_of arms ≡ merged_choices protocol talks)

-- the state stands for the front of that number
pub record WorksOn (protocol : Protocol_data) (role : Role) (old : List Front_data) (number : ℕ) (new : List Front_data) (state : State) : Type 0 where
  pub front : Front_data
  pub here : slice_get old number ≡ Some front
  pub merges : Merges protocol role front
  pub discovers : Discovers protocol role old front.talks (merged_choices protocol front.talks) new (nexts_behind state)
  pub shape : HasShape protocol role front.talks state

-- two of its members clash first
pub record ClashesAt (protocol : Protocol_data) (role : Role) (fronts : List Front_data) (number a : ℕ) (b : Option ℕ) : Type 0 where
  pub front : Front_data
  pub here : slice_get fronts number ≡ Some front
  pub clash : FirstClash protocol role front a b

-- none clash, and there are too many fronts after it
pub record OverflowsAt (protocol : Protocol_data) (role : Role) (fronts : List Front_data) (number : ℕ) : Type 0 where
  pub front : Front_data
  pub here : slice_get fronts number ≡ Some front
  pub merges : Merges protocol role front
  pub many : TooManyAt protocol role fronts front.talks (merged_choices protocol front.talks)

-- what a fault of the work on the state with that number means
abbrev pub StateFault : Protocol_data → Role → List Front_data → ℕ → ProjFault → Type 0
StateFault protocol role fronts number (Unmergeable r a b) = (r ≡ role) × ClashesAt protocol role fronts number a b
StateFault protocol role fronts number (TooManyStates r) = (r ≡ role) × OverflowsAt protocol role fronts number
StateFault protocol role fronts number (Unreached r n) = ⊥
StateFault protocol role fronts number NoMemory = Unit {0}

-- the state stands for the front, and its nexts are the numbers of the fronts after its choices
pub record IsDoneWith (protocol : Protocol_data) (role : Role) (fronts : List Front_data) (front : Front_data) (state : State) : Type 0 where
  pub merges : Merges protocol role front
  pub behind : AreBehind protocol role fronts front.talks (merged_choices protocol front.talks) (nexts_behind state)
  pub shape : HasShape protocol role front.talks state

-- as far as the work has come
pub record Working (protocol : Protocol_data) (role : Role) (fronts : List Front_data) (states : List State) : Type 0 where
  pub found : AreFoundFronts protocol role fronts
  pub first : IsFrontAt fronts 0 (MeetsFirst protocol role protocol.root) (MeetsTheEnd protocol role protocol.root)
  pub order : Worked 0 1 (map nexts_behind states) (length fronts)
  pub ahead : length states ≤ length fronts
  pub done : (k : ℕ) (f : Front_data) (state : State) → slice_get fronts k ≡ Some f → slice_get states k ≡ Some state → IsDoneWith protocol role fronts f state
