-- Public: talkers, which have a value at hand and make something of each that comes, and how an actor plays one.
use Rattle.std.specs.Prelude.{◌≡◌, ℕ, ◌+◌, ◌^◌, ◌<◌, List, [], ◌∷◌, nat_lt, if◌then◌else◌, Option, Some, None, slice_get}
use Rattle.rs_model.specs.Serving.{Serves, serves}
use Rattle.rs_model.specs.Values.{empty_value}
use Rattle.rs_model.specs.declared.graph.Arm.{Arm}
use Rattle.rs_model.specs.declared.values.Sort.{Sort}
use Rattle.rs_model.specs.declared.values.Sort.TheVariants as sort
use Rattle.rs_model.specs.declared.values.Value.{Value}
use Rattle.rs_model.specs.declared.values.Value.TheVariants as value
use Rattle.rs_core.specs.Actors.{Choice, Behaviour}

-- how talkers with meanings in T do: the value that one has at hand, what it is when it has sent that, and what it is when a
-- value has come
pub record Conduct (T : Type 0) : Type 0 where
  pub at_hand : T → Value
  pub behind_sending : T → T
  pub behind_value : T → Value → T

-- the sort of a value
abbrev pub sort_of : Value → Sort
sort_of value.Unit = sort.Unit
sort_of (value.Flag b) = sort.Flag
sort_of (value.Natural n) = sort.Natural
sort_of (value.Whole z) = sort.Whole
sort_of (value.Octets bytes) = sort.Octets
sort_of (value.Numbers zs) = sort.Numbers

-- a value as messages carry it: a natural number from 2^63 on, which has no sort, is carried as 0
abbrev pub carried : Value → Value
carried (value.Natural n) = if nat_lt n (2 ^ 63) then value.Natural n else value.Natural 0
carried v = v

-- the place of the first of these arms where a value of the sort may stand, where they are counted from that number
abbrev pub first_place : Sort → ℕ → List Arm → Option ℕ
first_place s place [] = None
first_place s place (a ∷ arms) = if serves s a.sort then Some place else first_place s (place + 1) arms

-- the place of the first arm where a value of the sort may stand
abbrev pub arm_place : Sort → List Arm → Option ℕ
arm_place s arms = first_place s 0 arms

-- a value of the sort may stand at the arm at that place, and at none before it
pub record IsFirstArm (s : Sort) (arms : List Arm) (place : ℕ) : Type 0 where
  pub arm : Arm
  pub stands : slice_get arms place ≡ Some arm
  pub serves : Serves s arm.sort
  pub first : (earlier : ℕ) (other : Arm) → earlier < place → slice_get arms earlier ≡ Some other → Serves s other.sort → ⊥

-- the place of the arm by which the value at hand goes
abbrev pub arm_for : {T : Type 0} → Conduct T → T → List Arm → Option ℕ
arm_for c x arms = arm_place (sort_of (c.at_hand x)) arms

-- the empty value of the first arm's sort
abbrev pub empty_for : List Arm → Value
empty_for [] = value.Unit
empty_for (a ∷ arms) = empty_value a.sort

-- the value at hand goes by that arm; where there is none, the first arm is taken, with an empty value
abbrev pub chosen_at : {T : Type 0} → Conduct T → T → List Arm → Option ℕ → Choice
chosen_at c x arms (Some place) = (place, carried (c.at_hand x))
chosen_at c x arms None = (0, empty_for arms)

-- a talker has sent what it had at hand, where there was an arm for it; else it is as it was
abbrev pub behind_choice : {T : Type 0} → Conduct T → T → Option ℕ → T
behind_choice c x (Some place) = c.behind_sending x
behind_choice c x None = x

-- how the actor behaves that plays a talker: it chooses by sorts
abbrev pub by_sorts : {T : Type 0} → Conduct T → Behaviour T
by_sorts c = record {
  chooses = λ x arms. chosen_at c x arms (arm_for c x arms);
  asked = λ x arms. behind_choice c x (arm_for c x arms);
  told = λ x arms place v. c.behind_value x v;
}
