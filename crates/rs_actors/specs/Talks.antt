-- Public: what a talker says and hears over a role's history.
use Rattle.std.specs.Prelude.{◌≡◌, ◌⊎◌, ℕ, List, [], ◌∷◌, ◌++◌, map, Option, Some, None, slice_get}
use Rattle.rs_model.specs.Data.{Machine_data}
use Rattle.rs_model.specs.Serving.{Serves}
use Rattle.rs_model.specs.Values.{empty_value}
use Rattle.rs_model.specs.declared.graph.Arm.{Arm}
use Rattle.rs_model.specs.declared.graph.Role.{Role}
use Rattle.rs_model.specs.declared.machines.State.TheVariants.{Puts}
use Rattle.rs_model.specs.declared.values.Sort.{Sort}
use Rattle.rs_model.specs.declared.values.Value.{Value}
use Rattle.rs_core.specs.Actors.{Choice}
use Rattle.rs_core.specs.Histories.{Sent, Got, History}
use Rattle.rs_actors.specs.Talking.{Conduct, carried, sort_of}

-- the values that a role has sent, in order
abbrev pub values_sent : History → List Value
values_sent [] = []
values_sent (Sent peer label v ∷ h) = v ∷ values_sent h
values_sent (Got peer label v ∷ h) = values_sent h

-- the values that have come to it, in order
abbrev pub values_got : History → List Value
values_got [] = []
values_got (Sent peer label v ∷ h) = values_got h
values_got (Got peer label v ∷ h) = v ∷ values_got h

-- the value is the empty one of some sort
abbrev pub IsEmpty : Value → Type 0
IsEmpty v = (s : Sort) × (v ≡ empty_value s)

-- all are empty
abbrev pub AreEmpty : List Value → Type 0
AreEmpty [] = Unit {0}
AreEmpty (v ∷ values) = IsEmpty v × AreEmpty values

-- talker x sends the value and is then y: it is the value that it had at hand, or an empty one, and it keeps what it has
abbrev pub Says : {T : Type 0} → Conduct T → T → Value → T → Type 0
Says c x v y = ((v ≡ carried (c.at_hand x)) × (c.behind_sending x ≡ y)) ⊎ (IsEmpty v × (x ≡ y))

-- the value of the choice that is kept, if any
abbrev pub value_kept : Option Choice → List Value
value_kept None = []
value_kept (Some o) = o.1 ∷ []

-- where a choice is kept, talker x has said its value, too
abbrev pub HasKept : {T : Type 0} → Conduct T → T → Option Choice → T → Type 0
HasKept c x None y = x ≡ y
HasKept c x (Some o) y = Says c x o.1 y

-- by the history talker x becomes y; its machine isn't looked at
abbrev pub Talks : {T : Type 0} → Conduct T → T → History → T → Type 0
Talks c x [] y = x ≡ y
Talks {T} c x (Sent peer label v ∷ h) y = (z : T) × Says c x v z × Talks c z h y
Talks c x (Got peer label v ∷ h) y = Talks c (c.behind_value x v) h y

-- the values that were sent are the first of a list, in order, with empty ones between them, and the others of the list are
-- left
abbrev pub HandsOut : List Value → List Value → List Value → Type 0
HandsOut values [] left = values ≡ left
HandsOut values (v ∷ sent) left =
    ((next : Value) × (later : List Value) × (values ≡ next ∷ later) × (v ≡ carried next) × HandsOut later sent left) ⊎ (IsEmpty v × HandsOut values sent left)

-- the values that were sent are the first of a list, in order, and the others of the list are left; behind the last come empty
-- ones
pub record SendsInOrder (values sent left : List Value) : Type 0 where
  pub gone : List Value
  pub behind : List Value
  pub parts : values ≡ gone ++ left
  pub sent_are : sent ≡ map carried gone ++ behind
  pub empty : AreEmpty behind
  pub only_behind : (behind ≡ []) ⊎ (left ≡ [])

-- each state of the machine that sends has an arm where a value of the sort may stand
abbrev pub HasArmsFor : Machine_data → Sort → Type 0
HasArmsFor machine s = (state : ℕ) (peer : Role) (arms : List Arm) → slice_get machine.states state ≡ Some (Puts peer arms)
    → (place : ℕ) × (arm : Arm) × (slice_get arms place ≡ Some arm) × Serves s arm.sort

-- and so for the sort of each of these values
abbrev pub HasArmsForAll : Machine_data → List Value → Type 0
HasArmsForAll machine [] = Unit {0}
HasArmsForAll machine (v ∷ values) = HasArmsFor machine (sort_of v) × HasArmsForAll machine values
