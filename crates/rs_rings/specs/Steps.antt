-- Public: what each kind of step of the table tells the seat that makes it.
use Rattle.std.specs.Prelude.{◌≡◌, ◌≢◌, ℕ, ◌+◌, ◌≤◌, List, [], ◌∷◌, length, Option, Some, None}
use Rattle.atomic_table.specs.Table.{Step, Me, rest}
use Rattle.rs_model.specs.Data.{Machine_data}
use Rattle.rs_model.specs.Sorts.{HasSort}
use Rattle.rs_model.specs.declared.graph.Arm.{Arm}
use Rattle.rs_core.specs.Ways.{arm_with}
use Rattle.rs_slots.specs.declared.parcels.Parcel.{Parcel}
use Rattle.rs_rings.specs.Acts.{sent_act, got_act, parcels_sent, parcels_got, Happened, HadTaken, HadPut, MayPut, MayTake}
use Rattle.rs_rings.specs.Places.{slot_place}
use Rattle.rs_rings.specs.Views.{the_part, last_found, view_with_part, part_with_room, gaining, sending, part_with_parcel, taking, getting, KnowsGot, KnowsSent, KnowsOldest}
use Rattle.rs_rings.specs.declared.views.Middle.{Middle}
use Rattle.rs_rings.specs.declared.views.Middle.TheVariants.{Idle, Putting, Taking}
use Rattle.rs_rings.specs.declared.views.Part.{Part}
use Rattle.rs_rings.specs.declared.views.View.{View}

-- what the steps of one call speak of: the sizes, the ring, the arms of the receiver's state, the next state of the role
-- that acts, and the machines
pub record Call : Type 0 where
  pub roles : ℕ
  pub capacity : ℕ
  pub sender : ℕ
  pub receiver : ℕ
  pub next : ℕ
  pub arms : List Arm
  pub machines : List Machine_data

-- the first arm with the parcel's label, which has a sort that its value has
pub record HasFittingArm (arms : List Arm) (x : Parcel) : Type 0 where
  pub arm : Arm
  pub chosen : arm_with arms x.label ≡ Some arm
  pub has : HasSort x.value arm.sort

-- what the seat knows of role r
abbrev pub own : ℕ → Me (Option Parcel) View → Part
own r m = the_part r m.0.parts

-- how many parcels the sender has sent to the receiver, and how many the receiver has got
abbrev pub sent_of : Call → Me (Option Parcel) View → ℕ
sent_of w m = length (parcels_sent w.receiver (own w.sender m).history)

-- how many the receiver has got from the sender
abbrev pub got_of : Call → Me (Option Parcel) View → ℕ
got_of w m = length (parcels_got w.sender (own w.receiver m).history)

-- the slot of the ring's parcel number k
abbrev pub slot_at : Call → ℕ → ℕ
slot_at w k = slot_place w.roles w.capacity w.sender w.receiver k

-- the sender loads the head word and reads r: it finds the ring full, or gains the empty slot of its next parcel
abbrev pub LoadsHead : Call → Step (Option Parcel) → Me (Option Parcel) View → ℕ → Me (Option Parcel) View → Type 0
LoadsHead w st m r m' =
    (last_found w.receiver (own w.sender m).heads ≤ r) × (r ≤ sent_of w m) × (sent_of w m ≤ r + w.capacity)
    × (sent_of w m ≡ r + w.capacity → m' ≡ (view_with_part w.sender (part_with_room w.receiver r (own w.sender m)) m.0, m.1))
    × (sent_of w m ≢ r + w.capacity → m' ≡ (view_with_part w.sender (gaining w.receiver r (own w.sender m)) m.0, (slot_at w (sent_of w m), None) ∷ m.1))
    × KnowsGot m.0 w.sender w.receiver r
    × HadTaken w.machines w.sender (own w.sender m).history w.receiver r

-- the sender loads the head word and reads r, only to see whether there is room: it gains no slot
abbrev pub LooksAtHead : Call → Step (Option Parcel) → Me (Option Parcel) View → ℕ → Me (Option Parcel) View → Type 0
LooksAtHead w st m r m' =
    (last_found w.receiver (own w.sender m).heads ≤ r) × (r ≤ sent_of w m) × (sent_of w m ≤ r + w.capacity)
    × (m' ≡ (view_with_part w.sender (part_with_room w.receiver r (own w.sender m)) m.0, m.1))
    × KnowsGot m.0 w.sender w.receiver r
    × HadTaken w.machines w.sender (own w.sender m).history w.receiver r

-- the sender stores the tail word: the slot that it took last goes home with the parcel in it, which is sent by this
abbrev pub GivesFilled : Call → Me (Option Parcel) View → Me (Option Parcel) View → List (ℕ × Option Parcel) → Type 0
GivesFilled w m m' [] = ⊥
GivesFilled w m m' ((k, None) ∷ cs) = ⊥
GivesFilled w m m' ((k, Some x) ∷ cs) =
    (n : ℕ) × (m' ≡ (view_with_part w.sender (sending w.receiver x w.next n (own w.sender m)) m.0, cs)) × Happened w.machines w.sender (own w.sender m).history (sent_act w.receiver x)
    × ((own w.sender m).middle ≡ Putting w.receiver) × MayPut w.machines w.sender w.receiver (own w.sender m).state x w.next

-- a store of the tail word, by a seat that holds its slot, filled, and is in the middle of a put
abbrev pub StoresTail : Call → Step (Option Parcel) → Me (Option Parcel) View → ℕ → Me (Option Parcel) View → Type 0
StoresTail w st m r m' = GivesFilled w m m' m.1

-- the receiver loads the tail word and reads r: it finds the ring empty, or gains the slot of the oldest parcel, which fits
abbrev pub LoadsTail : Call → Step (Option Parcel) → Me (Option Parcel) View → ℕ → Me (Option Parcel) View → Type 0
LoadsTail w st m r m' =
    (last_found w.sender (own w.receiver m).tails ≤ r) × (got_of w m ≤ r) × (r ≤ got_of w m + w.capacity)
    × (got_of w m ≡ r → m' ≡ (view_with_part w.receiver (part_with_parcel w.sender r (own w.receiver m)) m.0, m.1))
    × (got_of w m ≢ r → (x : Parcel) × HasFittingArm w.arms x × (m' ≡ (view_with_part w.receiver (taking w.sender x r (own w.receiver m)) m.0, (slot_at w (got_of w m), Some x) ∷ m.1))
    × KnowsOldest m.0 w.sender w.receiver x)
    × KnowsSent m.0 w.sender w.receiver r
    × HadPut w.machines w.receiver (own w.receiver m).history w.sender r

-- the receiver stores the head word: the slot goes home empty, and the parcel is got by this
abbrev pub GivesEmptied : Call → Me (Option Parcel) View → Me (Option Parcel) View → Middle → Type 0
GivesEmptied w m m' Idle = ⊥
GivesEmptied w m m' (Putting q) = ⊥
GivesEmptied w m m' (Taking p x) =
    (n : ℕ) × (m' ≡ (view_with_part w.receiver (getting w.sender x w.next n (own w.receiver m)) m.0, rest m.1)) × Happened w.machines w.receiver (own w.receiver m).history (got_act w.sender x)
    × (p ≡ w.sender) × MayTake w.machines w.receiver w.sender (own w.receiver m).state x w.next

-- a store of the head word, by a receiver that is in the middle of a take
abbrev pub StoresHead : Call → Step (Option Parcel) → Me (Option Parcel) View → ℕ → Me (Option Parcel) View → Type 0
StoresHead w st m r m' = GivesEmptied w m m' (own w.receiver m).middle
