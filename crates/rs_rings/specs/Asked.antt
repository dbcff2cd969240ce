-- Public: what the calls on a seat ask of it.
use Rattle.std.specs.Prelude.{◌≡◌, ℕ, ◌<◌, ◌^◌, true, List, [], ◌∷◌, length, Option, None}
use mathlib.Core.Option.{some}
use lib.ListN.{get_elem?}
use Rattle.std.specs.Global.{Box}
use Rattle.atomic_table.specs.Table.{State, Me, Act, Valid, stepped, carried_after}
use Rattle.rs_model.specs.Data.{Machine_data}
use Rattle.rs_model.specs.declared.graph.Arm.{Arm}
use Rattle.rs_slots.specs.Places.{IsPair}
use Rattle.rs_slots.specs.declared.parcels.Parcel.{Parcel}
use Rattle.rs_rings.specs.Rows.{IsBetweenCalls}
use Rattle.rs_rings.specs.Rule.{machines_in_key}
use Rattle.rs_rings.specs.Steps.{Call}
use Rattle.rs_rings.specs.Views.{speaks, the_part}
use Rattle.rs_rings.specs.declared.rows.Row.{Row}
use Rattle.rs_rings.specs.declared.views.Key.{Key}
use Rattle.rs_rings.specs.declared.views.Middle.TheVariants.{Idle, Taking}
use Rattle.rs_rings.specs.declared.views.View.{View}

-- the call is one on the ring from p to q of rings with these sizes and machines
pub record IsCallOn (call : Call) (roles capacity p q : ℕ) (machines : List Machine_data) : Type 0 where
  pub roles_are : call.roles ≡ roles
  pub capacity_is : call.capacity ≡ capacity
  pub sender_is : call.sender ≡ p
  pub receiver_is : call.receiver ≡ q
  pub machines_are : call.machines ≡ machines

-- it is one behind which the role that acts stands in the state `next`
pub record IsActCall (call : Call) (roles capacity p q : ℕ) (machines : List Machine_data) (next : ℕ) : Type 0 where
  pub on : IsCallOn call roles capacity p q machines
  pub next_is : call.next ≡ next

-- it is one at which the receiver stands in a state with these arms
pub record IsLookCall (call : Call) (roles capacity p q : ℕ) (machines : List Machine_data) (arms : List Arm) : Type 0 where
  pub on : IsCallOn call roles capacity p q machines
  pub arms_are : call.arms ≡ arms

-- the seat speaks for the role, which is in no middle, and holds no slot
pub record IsIdleAt (r : ℕ) (m : Me (Option Parcel) View) : Type 0 where
  pub speaks_for : speaks r m.0.parts ≡ true
  pub idle : (the_part r m.0.parts).middle ≡ Idle
  pub empty : m.1 ≡ []

-- the seat speaks for q, which is in the middle of taking the parcel from p, and holds the slot k alone, which is empty
pub record IsTakingAt (q p : ℕ) (x : Parcel) (k : ℕ) (m : Me (Option Parcel) View) : Type 0 where
  pub speaks_for : speaks q m.0.parts ≡ true
  pub taking_it : (the_part q m.0.parts).middle ≡ Taking p x
  pub holds : m.1 ≡ (k, None) ∷ []

-- these parcels are so many, and one more can be counted
pub record IsCountOf (n : ℕ) (parcels : List Parcel) : Type 0 where
  pub count : n ≡ length parcels
  pub fits : n < 2 ^ 63

-- the seat is between two calls and speaks for the role, which has done no more acts than can be counted
pub record MayAct (r : ℕ) (m : Me (Option Parcel) View) (items : List (Option (Box Row))) : Type 0 where
  pub between : IsBetweenCalls m items
  pub speaks_for : speaks r m.0.parts ≡ true
  pub acts : length (the_part r m.0.parts).history < 2 ^ 63

-- in a call on the ring from p to q a seat that speaks for role r makes one step on the word, from s to t: it leaves the number
-- `new` in the word, and the seat, which was m, is m' behind it
pub record IsCallStep (key : Key) (s t : State (Option Parcel) View) (r p q word new : ℕ) (call : Call) (m m' : Me (Option Parcel) View) : Type 0 where
  pub seat : ℕ
  pub act : Act (Option Parcel)
  pub pair : IsPair key.roles p q
  pub on : IsCallOn call key.roles key.capacity p q (machines_in_key key)
  pub speaks_for : speaks r m.0.parts ≡ true
  pub present : get_elem? s.views seat ≡ some m.0
  pub valid : Valid s.homes m.1 act
  pub becomes : t ≡ stepped s word new seat m.1 m'.0 act
  pub carries : m'.1 ≡ carried_after m.1 act
