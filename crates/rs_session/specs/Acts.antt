-- Public: what sends and receives of stages tell.
use Rattle.std.specs.Prelude.{◌≡◌, ◌≢◌, ℕ, ◌+◌, ◌<◌, ◌≤◌, Bool, true, false, List, length, Some, slice_get}
use Rattle.rs_model.specs.Sorts.{HasSort}
use Rattle.rs_model.specs.declared.graph.Arm.{Arm}
use Rattle.rs_model.specs.declared.graph.Role.{Role}
use Rattle.rs_model.specs.declared.machines.State.TheVariants.{Puts, Takes}
use Rattle.rs_model.specs.declared.values.Value.{Value}
use Rattle.rs_slots.specs.declared.parcels.Parcel.{Parcel}
use Rattle.rs_rings.specs.Acts.{sent_act, got_act, parcels_sent, parcels_got, Happened, HadTaken, HadPut}
use Rattle.rs_rings.specs.Passes.{Rings_data}
use Rattle.rs_rings.specs.Views.{last_found, part_with_room, gaining, sending, part_with_parcel, taking, getting}
use Rattle.rs_rings.specs.declared.views.Part.{Part}
use Rattle.rs_session.specs.Data.{Stage_data}
use Rattle.rs_session.specs.Stages.{sight_of_stage, state_of_stage, IsSending, IsReceiving, IsOf}
use Rattle.rs_session.specs.declared.stages.Sent.{Sent}
use Rattle.rs_session.specs.declared.stages.Sent.TheVariants.{Went, Full}
use Rattle.rs_session.specs.declared.stages.Stage.{Stage}
use Rattle.rs_session.specs.declared.stages.Taken.{Taken}
use Rattle.rs_session.specs.declared.stages.Taken.TheVariants.{Got, Empty}

-- the parcel that carries a value by the arm
abbrev pub parcel_by : Arm → Value → Parcel
parcel_by arm value = record { label = arm.label; value = value }

-- the stage of the same role and session, of which this is known
abbrev pub stage_with : Part → Stage_data → Stage_data
stage_with part stage = record { table = stage.table; role = stage.role; part = part }

-- the stage stands at a state that sends to the peer, with the arm at that place, and the value is of the arm's sort
pub record SendsBy (session : Rings_data) (stage : Stage_data) (place : ℕ) (value : Value) : Type 0 where
  pub peer : Role
  pub arms : List Arm
  pub arm : Arm
  pub stands : state_of_stage session stage ≡ Some (Puts peer arms)
  pub picks : slice_get arms place ≡ Some arm
  pub has_sort : HasSort value arm.sort

-- the stage stands at a state that receives from the peer, with the arm at that place, and the value is of the arm's sort
pub record ReceivesBy (session : Rings_data) (stage : Stage_data) (place : ℕ) (value : Value) : Type 0 where
  pub peer : Role
  pub arms : List Arm
  pub arm : Arm
  pub stands : state_of_stage session stage ≡ Some (Takes peer arms)
  pub picks : slice_get arms place ≡ Some arm
  pub has_sort : HasSort value arm.sort

-- the stage's role has sent x to q: the one load read the number `taken` of parcels that q had taken, and there was room; the
-- send happened, before which q had made so many loads, and the role stands in the state `next`
pub record HasSent (session : Rings_data) (q : ℕ) (x : Parcel) (next : ℕ) (old new : Stage_data) : Type 0 where
  pub taken : ℕ
  pub not_less : last_found q old.part.heads ≤ taken
  pub room : length (parcels_sent q old.part.history) ≢ taken + session.capacity
  pub not_more : taken ≤ length (parcels_sent q old.part.history)
  pub below : length (parcels_sent q old.part.history) < taken + session.capacity
  pub read : HadTaken session.machines old.role.0 old.part.history q taken
  pub happened : Happened session.machines old.role.0 old.part.history (sent_act q x)
  pub loads : ℕ
  pub becomes : new ≡ stage_with (sending q x next loads (gaining q taken old.part)) old

-- the ring to q was full: the one load read the number `taken` of parcels that q had taken, the stage's role has sent `sent`, and
-- that is the capacity more
pub record FindsFull (session : Rings_data) (q sent taken : ℕ) (old new : Stage_data) : Type 0 where
  pub is_sent : sent ≡ length (parcels_sent q old.part.history)
  pub full : sent ≡ taken + session.capacity
  pub not_less : last_found q old.part.heads ≤ taken
  pub read : HadTaken session.machines old.role.0 old.part.history q taken
  pub becomes : new ≡ stage_with (part_with_room q taken old.part) old

-- a look of the stage's role for room in the ring to q: the one load read the number `taken` of parcels that q had taken, and there
-- is room if the role has sent less than the capacity more
pub record LooksForRoom (session : Rings_data) (q : ℕ) (room : Bool) (old new : Stage_data) : Type 0 where
  pub taken : ℕ
  pub not_less : last_found q old.part.heads ≤ taken
  pub not_more : taken ≤ length (parcels_sent q old.part.history)
  pub some : room ≡ true → length (parcels_sent q old.part.history) < taken + session.capacity
  pub none : room ≡ false → length (parcels_sent q old.part.history) ≡ taken + session.capacity
  pub read : HadTaken session.machines old.role.0 old.part.history q taken
  pub becomes : new ≡ stage_with (part_with_room q taken old.part) old

-- the stage's role has got x from p: the one load read the number `put` of parcels that p had put, which is more than the role
-- has got, by no more than the capacity; the receive happened, before which p had made so many loads, and the role stands in
-- the state `next`
pub record HasGot (session : Rings_data) (p : ℕ) (x : Parcel) (next : ℕ) (old new : Stage_data) : Type 0 where
  pub put : ℕ
  pub not_less : last_found p old.part.tails ≤ put
  pub more : length (parcels_got p old.part.history) ≢ put
  pub above : length (parcels_got p old.part.history) < put
  pub not_more : put ≤ length (parcels_got p old.part.history) + session.capacity
  pub read : HadPut session.machines old.role.0 old.part.history p put
  pub happened : Happened session.machines old.role.0 old.part.history (got_act p x)
  pub loads : ℕ
  pub becomes : new ≡ stage_with (getting p x next loads (taking p x put old.part)) old

-- the ring from p was empty: the one load read the number `seen` of parcels that p had put, and the stage's role has got so many
pub record FindsEmpty (session : Rings_data) (p seen : ℕ) (old new : Stage_data) : Type 0 where
  pub is_got : seen ≡ length (parcels_got p old.part.history)
  pub not_less : last_found p old.part.tails ≤ seen
  pub read : HadPut session.machines old.role.0 old.part.history p seen
  pub becomes : new ≡ stage_with (part_with_parcel p seen old.part) old

-- a send of the value by the arm at that place went, and leaves the next stage
pub record IsSent (session : Rings_data) (old : Stage_data) (place : ℕ) (value : Value) (new : Stage) : Type 0 where
  pub by : SendsBy session old place value
  pub sent : HasSent session by.peer.0 (parcel_by by.arm value) by.arm.next old (sight_of_stage new)
  pub of : IsOf session new

-- the send found the ring full, and hands back the stage and the value
pub record IsHandedBack (session : Rings_data) (old : Stage_data) (place : ℕ) (value : Value) (new : Stage_data) (back : Value) (sent taken : ℕ) : Type 0 where
  pub by : SendsBy session old place value
  pub full : FindsFull session by.peer.0 sent taken old new
  pub same : back ≡ value
  pub of : IsSending session new

-- what a look for room tells: the stage stands at the same state, which sends, and only what is known of the ring has changed
pub record RoomTells (session : Rings_data) (old new : Stage_data) (room : Bool) : Type 0 where
  pub from : IsSending session old
  pub looks : LooksForRoom session from.peer.0 room old new
  pub of : IsSending session new

-- what a send tells that went, or that found the ring full
abbrev pub SendTells : Rings_data → Stage_data → ℕ → Value → Sent → Type 0
SendTells session old place value (Went new) = IsSent session old place value new
SendTells session old place value (Full new back sent taken) = IsHandedBack session old place value new back sent taken

-- a receive got the value by the arm at that place, and leaves the next stage
pub record IsGot (session : Rings_data) (old : Stage_data) (place : ℕ) (value : Value) (new : Stage) : Type 0 where
  pub by : ReceivesBy session old place value
  pub got : HasGot session by.peer.0 (parcel_by by.arm value) by.arm.next old (sight_of_stage new)
  pub of : IsOf session new

-- the receive found the ring empty, and hands back the stage
pub record IsKept (session : Rings_data) (old new : Stage_data) (seen : ℕ) : Type 0 where
  pub from : IsReceiving session old
  pub empty : FindsEmpty session from.peer.0 seen old new
  pub of : IsReceiving session new

-- what a receive tells that got a value, or that found the ring empty
abbrev pub ReceiveTells : Rings_data → Stage_data → Taken → Type 0
ReceiveTells session old (Got place value new) = IsGot session old place value new
ReceiveTells session old (Empty new seen) = IsKept session old new seen
