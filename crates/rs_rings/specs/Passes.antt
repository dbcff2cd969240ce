-- Public: what contracts see of rings and passes, and what the calls on them tell.
use Rattle.std.specs.Prelude.{◌≡◌, ◌≢◌, ℕ, ◌+◌, ◌<◌, ◌≤◌, Bool, true, false, List, length, Some, slice_get}
use Rattle.atomic_table.specs.Seated.{TableId}
use Rattle.rs_model.specs.Data.{Machine_data}
use Rattle.rs_model.specs.declared.graph.Arm.{Arm}
use Rattle.rs_model.specs.declared.graph.Role.{Role}
use Rattle.rs_model.specs.declared.machines.State.TheVariants.{Puts, Takes}
use Rattle.rs_core.specs.Choosable.{label_of}
use Rattle.rs_core.specs.Configurations.{state_of}
use Rattle.rs_slots.specs.declared.parcels.Parcel.{Parcel}
use Rattle.rs_rings.specs.Acts.{sent_act, got_act, parcels_sent, parcels_got, Happened, HadTaken, HadPut, MayPut, MayTake}
use Rattle.rs_rings.specs.Views.{speaks, the_part, part_of, last_found, part_with_room, gaining, sending, part_with_parcel, taking, getting, KnowsGot, KnowsSent, KnowsOldest}
use Rattle.rs_rings.specs.declared.answers.Put.{Put}
use Rattle.rs_rings.specs.declared.answers.Put.TheVariants.{Done, Full}
use Rattle.rs_rings.specs.declared.answers.Got.{Got}
use Rattle.rs_rings.specs.declared.answers.Got.TheVariants.{One, Empty}
use Rattle.rs_rings.specs.declared.answers.GotOn.{GotOn}
use Rattle.rs_rings.specs.declared.answers.GotOn.TheVariants as got_on
use Rattle.rs_rings.specs.declared.views.Part.{Part}
use Rattle.rs_rings.specs.declared.views.View.{View}

-- what contracts see of rings: their table, which no other rings have, the sizes and the machines
pub record Rings_data : Type 0 where
  pub table : TableId
  pub roles : ℕ
  pub capacity : ℕ
  pub machines : List Machine_data

-- what contracts see of a pass: the table of its rings, and what it knows of each role that it speaks for
pub record Pass_data : Type 0 where
  pub table : TableId
  pub view : View

-- role p, in state s, can put the parcel to q
abbrev pub CanPut : List Machine_data → ℕ → Role → ℕ → Parcel → Type 0
CanPut machines p q s x = (next : ℕ) × MayPut machines p q.0 s x next

-- role q, in state s, takes from p
pub record CanTake (machines : List Machine_data) (q : ℕ) (p : Role) (s : ℕ) : Type 0 where
  pub arms : List Arm
  pub takes : state_of (slice_get machines q) s ≡ Some (Takes p arms)

-- role p, in state s, sends to q
pub record SendsTo (machines : List Machine_data) (p : ℕ) (q : Role) (s : ℕ) : Type 0 where
  pub arms : List Arm
  pub puts : state_of (slice_get machines p) s ≡ Some (Puts q arms)

-- what the pass knows of p is y now, and all else that it knows is as it was
pub record IsChanged (p : ℕ) (y : Part) (v w : View) : Type 0 where
  pub part : the_part p w.parts ≡ y
  pub spoken : (r : ℕ) → speaks r w.parts ≡ speaks r v.parts
  pub others : (r : ℕ) → r ≢ p → the_part r w.parts ≡ the_part r v.parts

-- what a look for room in the ring from p to q tells, by which the pass's view v became w: the one load read the number `taken`
-- of parcels that q had taken, and there is room if p has sent less than the capacity more. A pass that speaks for q too knows
-- that number
pub record RoomTells (machines : List Machine_data) (capacity p q : ℕ) (v w : View) (room : Bool) : Type 0 where
  pub taken : ℕ
  pub not_less : last_found q (part_of v p).heads ≤ taken
  pub not_more : taken ≤ length (parcels_sent q (part_of v p).history)
  pub some : room ≡ true → length (parcels_sent q (part_of v p).history) < taken + capacity
  pub none : room ≡ false → length (parcels_sent q (part_of v p).history) ≡ taken + capacity
  pub changed : IsChanged p (part_with_room q taken (part_of v p)) v w
  pub knows : KnowsGot v p q taken
  pub read : HadTaken machines p (part_of v p).history q taken

-- of a sender this is known: by the number that it last read of its ring to q, one parcel more has room there
abbrev pub HasSeenRoom : ℕ → ℕ → Part → Type 0
HasSeenRoom capacity q a = length (parcels_sent q a.history) < last_found q a.heads + capacity

-- x was put from p to q: the one load read the number `taken` of parcels that q had taken, and there was room; the send
-- happened, before which q had made so many loads, and p stands in the state `next`. A pass that speaks for q too knows that
-- number
pub record IsPut (machines : List Machine_data) (capacity p q : ℕ) (x : Parcel) (v w : View) : Type 0 where
  pub taken : ℕ
  pub next : ℕ
  pub not_less : last_found q (part_of v p).heads ≤ taken
  pub room : length (parcels_sent q (part_of v p).history) ≢ taken + capacity
  pub not_more : taken ≤ length (parcels_sent q (part_of v p).history)
  pub below : length (parcels_sent q (part_of v p).history) < taken + capacity
  pub may : MayPut machines p q (part_of v p).state x next
  pub happened : Happened machines p (part_of v p).history (sent_act q x)
  pub loads : ℕ
  pub changed : IsChanged p (sending q x next loads (gaining q taken (part_of v p))) v w
  pub knows : KnowsGot v p q taken
  pub read : HadTaken machines p (part_of v p).history q taken

-- the ring from p to q was full: the one load read the number `taken` of parcels that q had taken, p has sent `sent`, and that
-- is the capacity more; x comes back. A pass that speaks for q too knows how many q has taken
pub record RingIsFull (machines : List Machine_data) (capacity p q : ℕ) (x : Parcel) (sent taken : ℕ) (back : Parcel) (v w : View) : Type 0 where
  pub is_sent : sent ≡ length (parcels_sent q (part_of v p).history)
  pub full : sent ≡ taken + capacity
  pub not_less : last_found q (part_of v p).heads ≤ taken
  pub same : back ≡ x
  pub changed : IsChanged p (part_with_room q taken (part_of v p)) v w
  pub knows : KnowsGot v p q taken
  pub read : HadTaken machines p (part_of v p).history q taken

-- what a put of x from p to q tells, by which the pass's view v became w
abbrev pub PutTells : List Machine_data → ℕ → ℕ → ℕ → Parcel → View → View → Put → Type 0
PutTells machines capacity p q x v w Done = IsPut machines capacity p q x v w
PutTells machines capacity p q x v w (Full sent taken back) = RingIsFull machines capacity p q x sent taken back v w

-- q took x from p: the one load read the number `put` of parcels that p had put, which is more than q has got, by no more than
-- the capacity; the receive happened, before which p had made so many loads, and q stands in the state `next`. A pass that
-- speaks for p too knows that number, and that x is the oldest parcel under way
pub record ParcelIsTaken (machines : List Machine_data) (capacity q p : ℕ) (x : Parcel) (v w : View) : Type 0 where
  pub put : ℕ
  pub next : ℕ
  pub not_less : last_found p (part_of v q).tails ≤ put
  pub more : length (parcels_got p (part_of v q).history) ≢ put
  pub above : length (parcels_got p (part_of v q).history) < put
  pub not_more : put ≤ length (parcels_got p (part_of v q).history) + capacity
  pub may : MayTake machines q p (part_of v q).state x next
  pub happened : Happened machines q (part_of v q).history (got_act p x)
  pub loads : ℕ
  pub changed : IsChanged q (getting p x next loads (taking p x put (part_of v q))) v w
  pub knows : KnowsSent v p q put
  pub read : HadPut machines q (part_of v q).history p put
  pub oldest : KnowsOldest v p q x

-- the ring from p to q was empty: the one load read the number `seen` of parcels that p had put, and q has got so many. A pass
-- that speaks for p too knows that p has put no more
pub record IsEmpty (machines : List Machine_data) (q p seen : ℕ) (v w : View) : Type 0 where
  pub is_got : seen ≡ length (parcels_got p (part_of v q).history)
  pub not_less : last_found p (part_of v q).tails ≤ seen
  pub changed : IsChanged q (part_with_parcel p seen (part_of v q)) v w
  pub knows : KnowsSent v p q seen
  pub read : HadPut machines q (part_of v q).history p seen

-- what a look of q for a parcel from p tells, by which the pass's view v became w
abbrev pub TakeTells : List Machine_data → ℕ → ℕ → ℕ → View → View → Got → Type 0
TakeTells machines capacity q p v w (One x) = ParcelIsTaken machines capacity q p x v w
TakeTells machines capacity q p v w (Empty seen) = IsEmpty machines q p seen v w

-- what a look of q, at a state with these arms, tells: what a look does, and at which place the arm with the parcel's label is
abbrev pub TakeByTells : List Machine_data → ℕ → ℕ → ℕ → List Arm → View → View → GotOn → Type 0
TakeByTells machines capacity q p arms v w (got_on.One place x) = ParcelIsTaken machines capacity q p x v w × (label_of (slice_get arms place) ≡ Some x.label)
TakeByTells machines capacity q p arms v w (got_on.Empty seen) = IsEmpty machines q p seen v w
