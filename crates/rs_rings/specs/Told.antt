-- Steps: what the calls on a seat tell.
use Rattle.std.specs.Prelude.{◌≡◌, ◌≢◌, ℕ, ◌+◌, ◌<◌, ◌≤◌, Bool, true, false, List, [], ◌∷◌, ◌++◌, map, Option, Some, None, slice_get}
use Rattle.atomic_table.specs.Table.{Me}
use Rattle.rs_model.specs.Data.{Machine_data}
use Rattle.rs_model.specs.declared.graph.Arm.{Arm}
use Rattle.rs_model.specs.declared.machines.State.{State}
use Rattle.rs_model.specs.declared.machines.State.TheVariants.{Done, Puts, Takes}
use Rattle.rs_core.specs.Choosable.{label_of}
use Rattle.rs_core.specs.Configurations.{Configuration, state_of}
use Rattle.rs_core.specs.Histories.{IsLegal}
use Rattle.rs_core.specs.Safety.{AllEnded}
use Rattle.rs_slots.specs.declared.parcels.Parcel.{Parcel}
use Rattle.rs_rings.specs.Acts.{message_of, sent_act, got_act, parcels_sent, parcels_got, MayTake, Happened, HadTaken, HadPut}
use Rattle.rs_rings.specs.Steps.{HasFittingArm}
use Rattle.rs_rings.specs.Views.{the_part, speaks, last_found, view_with_part, part_with_room, gaining, sending}
use Rattle.rs_rings.specs.Views.{part_with_parcel, taking, getting, history_in, parcels_under_way, KnowsGot, KnowsSent, KnowsOldest}
use Rattle.rs_rings.specs.declared.answers.Put.{Put}
use Rattle.rs_rings.specs.declared.answers.Put.TheVariants as put
use Rattle.rs_rings.specs.declared.answers.Looked.{Looked}
use Rattle.rs_rings.specs.declared.answers.Looked.TheVariants.{Nothing, Found}
use Rattle.rs_rings.specs.declared.answers.Took.{Took}
use Rattle.rs_rings.specs.declared.answers.Took.TheVariants as took
use Rattle.rs_rings.specs.declared.views.Part.{Part}
use Rattle.rs_rings.specs.declared.views.View.{View}

-- the arms of a state
abbrev pub arms_in_state : State → List Arm
arms_in_state Done = []
arms_in_state (Puts q arms) = arms
arms_in_state (Takes p arms) = arms

-- what the seat knows of p is y now, all else that it knows is as in the view v, and it holds no slot
pub record IsAfter (p : ℕ) (y : Part) (v : View) (m : Me (Option Parcel) View) : Type 0 where
  pub part : the_part p m.0.parts ≡ y
  pub empty : m.1 ≡ []
  pub spoken : (r : ℕ) → speaks r m.0.parts ≡ speaks r v.parts
  pub others : (r : ℕ) → r ≢ p → the_part r m.0.parts ≡ the_part r v.parts

-- a put of x from p to q by a seat with the view v, of which p has sent so many before and stands in `next` behind it
abbrev pub HasPut : List Machine_data → ℕ → ℕ → ℕ → ℕ → ℕ → Parcel → Part → View → Me (Option Parcel) View → Put → Type 0
HasPut machines next p q capacity sent x a v m put.Done =
    (n : ℕ) × (last_found q a.heads ≤ n) × (sent ≢ n + capacity) × Happened machines p a.history (sent_act q x) × ((l : ℕ) × IsAfter p (sending q x next l (gaining q n a)) v m)
    × KnowsGot v p q n × (n ≤ sent) × (sent < n + capacity) × HadTaken machines p a.history q n
HasPut machines next p q capacity sent x a v m (put.Full s n back) =
    (s ≡ sent) × (sent ≡ n + capacity) × (back ≡ x) × (last_found q a.heads ≤ n) × IsAfter p (part_with_room q n a) v m × KnowsGot v p q n
    × HadTaken machines p a.history q n

-- a look of p, which has sent so many parcels to q, for room in its ring to q
pub record HasLookedForRoom (machines : List Machine_data) (p q capacity sent : ℕ) (a : Part) (v : View) (m : Me (Option Parcel) View) (room : Bool) : Type 0 where
  pub taken : ℕ
  pub not_less : last_found q a.heads ≤ taken
  pub not_more : taken ≤ sent
  pub some : room ≡ true → sent < taken + capacity
  pub none : room ≡ false → sent ≡ taken + capacity
  pub after : IsAfter p (part_with_room q taken a) v m
  pub knows : KnowsGot v p q taken
  pub read : HadTaken machines p a.history q taken

-- a look of q for a parcel from p, of which q has got so many before; where one is found, its slot k is still with the seat
abbrev pub HasLooked : List Machine_data → ℕ → List Arm → ℕ → ℕ → ℕ → ℕ → Part → View → Me (Option Parcel) View → Looked → Type 0
HasLooked machines capacity arms p q k got a v m (Nothing n) =
    (n ≡ got) × (last_found p a.tails ≤ n) × IsAfter q (part_with_parcel p n a) v m × KnowsSent v p q n × HadPut machines q a.history p n
HasLooked machines capacity arms p q k got a v m (Found n x) =
    (got ≢ n) × (last_found p a.tails ≤ n) × HasFittingArm arms x × (m ≡ (view_with_part q (taking p x n a) v, (k, None) ∷ [])) × KnowsSent v p q n × KnowsOldest v p q x
    × HadPut machines q a.history p n × (got < n) × (n ≤ got + capacity)

-- the whole take, by a receiver at a state with these arms
abbrev pub HasTaken : List Machine_data → ℕ → List Arm → ℕ → ℕ → ℕ → Part → View → Me (Option Parcel) View → Took → Type 0
HasTaken machines capacity arms p q got a v m (took.Nothing n) =
    (n ≡ got) × (last_found p a.tails ≤ n) × IsAfter q (part_with_parcel p n a) v m × KnowsSent v p q n × HadPut machines q a.history p n
HasTaken machines capacity arms p q got a v m (took.One x place next) =
    (n : ℕ) × (got ≢ n) × (last_found p a.tails ≤ n) × MayTake machines q p a.state x next × Happened machines q a.history (got_act p x)
    × ((l : ℕ) × IsAfter q (getting p x next l (taking p x n a)) v m)
    × KnowsSent v p q n × KnowsOldest v p q x × HadPut machines q a.history p n × (got < n) × (n ≤ got + capacity)
    × (label_of (slice_get arms place) ≡ Some x.label)

-- q got the parcel from p, as the last step of a take, and the seat knows it
pub record HasGiven (machines : List Machine_data) (q p : ℕ) (x : Parcel) (next : ℕ) (v : View) (m : Me (Option Parcel) View) : Type 0 where
  pub happened : Happened machines q (the_part q v.parts).history (got_act p x)
  pub loads : ℕ
  pub after : IsAfter q (getting p x next loads (the_part q v.parts)) v m

-- at the end: the histories in the last seat's view are legal, and lead to a configuration with the states in it and with
-- queues of what was sent and not got
pub record IsLegalEnd (machines : List Machine_data) (roles : ℕ) (v : View) : Type 0 where
  pub last : Configuration
  pub legal : IsLegal machines (history_in v) last
  pub states : (r : ℕ) → r < roles → last.at r ≡ (the_part r v.parts).state
  pub queues : (p q : ℕ) → p < roles → q < roles → p ≢ q
      → (parcels_sent q (history_in v p) ≡ parcels_got p (history_in v q) ++ parcels_under_way v p q) × (last.queue p q ≡ map message_of (parcels_under_way v p q))
  pub over : ((r : ℕ) → r < roles → state_of (slice_get machines r) (the_part r v.parts).state ≡ Some Done)
      → AllEnded machines last × ((p q : ℕ) → p < roles → q < roles → p ≢ q → parcels_sent q (history_in v p) ≡ parcels_got p (history_in v q))
