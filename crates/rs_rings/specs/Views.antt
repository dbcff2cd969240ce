-- Public: what the views of a table know. A view has one part for each role that it speaks for.
use Rattle.std.specs.Prelude.{◌≡◌, ℕ, zero, suc, ◌==◌, Bool, true, false, if◌then◌else◌, List, [], ◌∷◌, ◌++◌, length, drop, slice_get, flat_map, Option, Some, None}
use Rattle.rs_model.specs.Data.{Machine_data}
use Rattle.rs_core.specs.Histories.{History}
use Rattle.rs_slots.specs.declared.parcels.Parcel.{Parcel}
use Rattle.rs_rings.specs.Acts.{sent_act, got_act, parcels_sent, parcels_got}
use Rattle.rs_rings.specs.declared.views.Load.{Load}
use Rattle.rs_rings.specs.declared.views.Middle.{Middle}
use Rattle.rs_rings.specs.declared.views.Middle.TheVariants.{Idle, Putting, Taking}
use Rattle.rs_rings.specs.declared.views.Part.{Part}
use Rattle.rs_rings.specs.declared.views.Stamp.{Stamp}
use Rattle.rs_rings.specs.declared.views.View.{View}

-- the number that was last read of the word of the ring with q, by loads with the newest first; 0 where none was
abbrev pub last_found : ℕ → List Load → ℕ
last_found q [] = 0
last_found q (l ∷ ls) = if q == l.peer then l.found else last_found q ls

-- how many of these loads are of the ring with q
abbrev pub loads_with : ℕ → List Load → ℕ
loads_with q [] = 0
loads_with q (l ∷ ls) = if q == l.peer then suc (loads_with q ls) else loads_with q ls

-- the number on a stamp of the ring with q
abbrev pub stamp_with : ℕ → Stamp → List ℕ
stamp_with q x = if q == x.peer then x.loads ∷ [] else []

-- the numbers on the stamps of the ring with q, in order
abbrev pub stamps_with : ℕ → List Stamp → List ℕ
stamps_with q xs = flat_map (stamp_with q) xs

-- whether the role is in the middle of a put to q
abbrev pub is_putting : ℕ → Middle → Bool
is_putting q Idle = false
is_putting q (Putting r) = q == r
is_putting q (Taking r x) = false

-- the parcel from p that the role is in the middle of taking
abbrev pub parcel_in_hand : ℕ → Middle → Option Parcel
parcel_in_hand p Idle = None
parcel_in_hand p (Putting r) = None
parcel_in_hand p (Taking r x) = if p == r then Some x else None

-- whether some part is that of role r, and the first that is
abbrev pub speaks : ℕ → List Part → Bool
speaks r [] = false
speaks r (x ∷ xs) = if r == x.role then true else speaks r xs

-- the part of a role of which nothing is known
abbrev pub blank_part : ℕ → Part
blank_part r = record { role = r; state = 0; history = []; heads = []; tails = []; put_stamps = []; take_stamps = []; middle = Idle }

-- the first part that is that of role r, and else a blank one
abbrev pub the_part : ℕ → List Part → Part
the_part r [] = blank_part r
the_part r (x ∷ xs) = if r == x.role then x else the_part r xs

-- what a view knows of a role that it speaks for
abbrev pub SpeaksFor : View → ℕ → Type 0
SpeaksFor v r = speaks r v.parts ≡ true

-- the part of a role in a view
abbrev pub part_of : View → ℕ → Part
part_of v r = the_part r v.parts

-- the state in which a role's machine stands, by a view
abbrev pub state_in : View → ℕ → ℕ
state_in v r = (the_part r v.parts).state

-- what a role has done, by a view
abbrev pub history_in : View → ℕ → History
history_in v r = (the_part r v.parts).history

-- the parcels that p has sent to q and that q hasn't got, by a view that speaks for both
abbrev pub parcels_under_way : View → ℕ → ℕ → List Parcel
parcels_under_way v p q = drop (length (parcels_got p (history_in v q))) (parcels_sent q (history_in v p))

-- a view that speaks for the receiver too knows how many parcels from p it has got
abbrev pub KnowsGot : View → ℕ → ℕ → ℕ → Type 0
KnowsGot v p q n = SpeaksFor v q → n ≡ length (parcels_got p (history_in v q))

-- a view that speaks for the sender too knows how many parcels to q it has sent
abbrev pub KnowsSent : View → ℕ → ℕ → ℕ → Type 0
KnowsSent v p q n = SpeaksFor v p → n ≡ length (parcels_sent q (history_in v p))

-- a view that speaks for the sender too knows that x is the oldest parcel that q hasn't got
abbrev pub KnowsOldest : View → ℕ → ℕ → Parcel → Type 0
KnowsOldest v p q x = SpeaksFor v p → parcels_under_way v p q ≡ x ∷ drop (suc (length (parcels_got p (history_in v q)))) (parcels_sent q (history_in v p))

-- the view with y in place of the part of role r
abbrev pub put_part : ℕ → Part → List Part → List Part
put_part r y [] = []
put_part r y (x ∷ xs) = if r == x.role then y ∷ xs else x ∷ put_part r y xs

-- the whole view with y in place of the part of role r
abbrev pub view_with_part : ℕ → Part → View → View
view_with_part r y v = record { parts = put_part r y v.parts }

-- the part of a sender that has read n in the head word of its ring to q and found the ring full; that has read it, found
-- room and gained a slot; and that has then sent the parcel, before which q had made so many loads, and stands in `next`
abbrev pub part_with_room : ℕ → ℕ → Part → Part
part_with_room q n a = record a { heads = record { peer = q; found = n } ∷ a.heads }

-- the part of a sender that has read n, found room and gained a slot
abbrev pub gaining : ℕ → ℕ → Part → Part
gaining q n a = record a { heads = record { peer = q; found = n } ∷ a.heads; middle = Putting q }

-- the part of a sender that has sent the parcel, before which q had made so many loads, and stands in the state `next`
abbrev pub sending : ℕ → Parcel → ℕ → ℕ → Part → Part
sending q x next loads a = record a { state = next; history = a.history ++ sent_act q x ∷ []; put_stamps = a.put_stamps ++ record { peer = q; loads = loads } ∷ []; middle = Idle }

-- the part of a receiver that has read n in the tail word of the ring from p and found the ring empty; that has read it and
-- gained the slot with the parcel; and that has then got the parcel, before which p had made so many loads, and stands in `next`
abbrev pub part_with_parcel : ℕ → ℕ → Part → Part
part_with_parcel p n a = record a { tails = record { peer = p; found = n } ∷ a.tails }

-- the part of a receiver that has read n and gained the slot with the parcel
abbrev pub taking : ℕ → Parcel → ℕ → Part → Part
taking p x n a = record a { tails = record { peer = p; found = n } ∷ a.tails; middle = Taking p x }

-- the part of a receiver that has got the parcel, before which p had made so many loads, and stands in the state `next`
abbrev pub getting : ℕ → Parcel → ℕ → ℕ → Part → Part
getting p x next loads a = record a { state = next; history = a.history ++ got_act p x ∷ []; take_stamps = a.take_stamps ++ record { peer = p; loads = loads } ∷ []; middle = Idle }

-- at the start the one view speaks for all roles; each stands in its machine's start state and has done nothing
abbrev pub start_of : Option Machine_data → ℕ
start_of None = 0
start_of (Some m) = m.start

-- the part of role r at the start
abbrev pub first_part : List Machine_data → ℕ → Part
first_part machines r = record { role = r; state = start_of (slice_get machines r); history = []; heads = []; tails = []; put_stamps = []; take_stamps = []; middle = Idle }

-- the parts of the first so many roles at the start
abbrev pub first_parts : List Machine_data → ℕ → List Part
first_parts machines zero = []
first_parts machines (suc n) = first_part machines n ∷ first_parts machines n

-- the view at the start
abbrev pub starting : List Machine_data → View
starting machines = record { parts = first_parts machines (length machines) }

-- a view that has given up role r, and the new view that speaks for r alone
abbrev pub parts_without : ℕ → List Part → List Part
parts_without r [] = []
parts_without r (x ∷ xs) = if r == x.role then parts_without r xs else x ∷ parts_without r xs

-- the view that has given up role r
abbrev pub view_without_role : ℕ → View → View
view_without_role r v = record { parts = parts_without r v.parts }

-- the new view, which speaks for r alone
abbrev pub alone : ℕ → View → View
alone r v = record { parts = the_part r v.parts ∷ [] }

-- a view that has taken in another, and the other, which speaks for no role any more
abbrev pub joint_view : View → View → View
joint_view v w = record { parts = v.parts ++ w.parts }

-- the view that speaks for no role
abbrev pub spent_view : View
spent_view = record { parts = [] }
