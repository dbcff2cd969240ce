-- What sends and receives of stages tell.
use Rattle.std.proofs.Common.{◌≡◌, ℕ, ◌+◌, ◌<◌, ◌≤◌, Bool, true, List, Some, IsSome, length, slice_get, refl, sym, ap, ◌∙◌, subst, arith}
use Rattle.rs_model.specs.Sorts.{HasSort}
use Rattle.rs_model.specs.declared.graph.Arm.{Arm}
use Rattle.rs_model.specs.declared.graph.Role.{Role}
use Rattle.rs_model.specs.declared.machines.State.TheVariants.{Puts, Takes}
use Rattle.rs_model.specs.declared.values.Value.{Value}
use Rattle.rs_core.specs.Choices.{AreWellFormed}
use Rattle.rs_core.proofs.Stands.{here_is}
use Rattle.rs_slots.specs.declared.parcels.Parcel.{Parcel}
use Rattle.rs_rings.specs.Acts.{parcels_sent}
use Rattle.rs_rings.specs.Passes.{Rings_data}
use Rattle.rs_rings.specs.Views.{last_found}
use Rattle.rs_rings.proofs.FourSteps.{found_here}
use Rattle.rs_session.specs.Acts.{parcel_by, SendsBy, HasSent, FindsFull, HasGot, FindsEmpty, LooksForRoom, RoomTells, IsSent, IsHandedBack, IsGot, IsKept}
use Rattle.rs_session.specs.Data.{Stage_data}
use Rattle.rs_session.specs.Stages.{sight_of_stage, state_of_stage, IsSending, IsReceiving, IsOf}
use Rattle.rs_session.specs.Standing.{HasGotBy, SendsTo}
use Rattle.rs_session.specs.declared.stages.Stage.{Stage}
use Rattle.rs_session.proofs.Beginning.{state_there}

-- an arm at that place is the arm that is told, so a value of the one's sort is of the other's
sort_by : (session : Rings_data) (stage : Stage_data) (place : ℕ) (value : Value) (peer : Role) (arm : Arm) → SendsBy session stage place value → SendsTo session stage place peer arm
    → HasSort value arm.sort
sort_by session stage place value peer arm by to =
    let both : Some (Puts by.peer by.arms) ≡ Some (Puts peer to.arms) = sym by.stands ∙ to.stands in
    let arms : by.arms ≡ to.arms = cc (both) in
    let picked : Some by.arm ≡ Some arm = sym by.picks ∙ ap (λ (l : List Arm). slice_get l place) arms ∙ to.picks in
    let same : by.arm ≡ arm = cc (picked) in
    subst (λ (z : Arm). HasSort value z.sort) same by.has_sort

-- what stands behind an arm that is at hand
pub sends_to : (session : Rings_data) (old standing : Stage_data) (place : ℕ) (value : Value) (peer : Role) (arm : Arm) → standing ≡ old → (by : SendsBy session old place value) → by.peer ≡ peer
    → by.arm ≡ arm → SendsTo session standing place peer arm
sends_to session old standing place value peer arm is by peers same = record {
  arms = by.arms;
  stands = ap (state_of_stage session) is ∙ by.stands ∙ ap (λ (r : Role). Some (Puts r by.arms)) peers;
  picks = by.picks ∙ ap (λ (a : Arm). Some a) same;
}

-- an arm that was looked up is at hand
pub sends_by : (session : Rings_data) (old standing : Stage_data) (place : ℕ) (value : Value) (peer : Role) (arm : Arm) → standing ≡ old → SendsBy session old place value
    → SendsTo session standing place peer arm → (by : SendsBy session old place value) × (by.peer ≡ peer) × (by.arm ≡ arm)
sends_by session old standing place value peer arm is by to =
    let to' : SendsTo session old place peer arm = subst (λ (z : Stage_data). SendsTo session z place peer arm) is to in
    (record { peer = peer; arms = to'.arms; arm = arm; stands = to'.stands; picks = to'.picks; has_sort = sort_by session old place value peer arm by to' }, refl, refl)

-- room that was seen stays
pub room_stays : (session : Rings_data) (old seen new : Stage_data) (place sent taken : ℕ) (value back : Value) → RoomTells session old seen true → IsHandedBack session seen place value new back sent taken → ⊥
room_stays session old seen new place sent taken value back told handed =
    let l = told.looks in
    let q : ℕ = told.from.peer.0 in
    let full = handed.full in
    let here : state_of_stage session seen ≡ Some (Puts told.from.peer told.from.arms) = ap (state_of_stage session) l.becomes ∙ told.from.stands in
    let both : Some (Puts handed.by.peer handed.by.arms) ≡ Some (Puts told.from.peer told.from.arms) = sym handed.by.stands ∙ here in
    let peers : handed.by.peer ≡ told.from.peer = cc (both) in
    let full' : FindsFull session q sent taken seen new = subst (λ (r : Role). FindsFull session r.0 sent taken seen new) peers full in
    let is : sent ≡ length (parcels_sent q old.part.history) = full'.is_sent ∙ ap (λ (z : Stage_data). length (parcels_sent q z.part.history)) l.becomes in
    let found : last_found q seen.part.heads ≡ l.taken = ap (λ (z : Stage_data). last_found q z.part.heads) l.becomes ∙ found_here q l.taken old.part.heads in
    let less : l.taken ≤ taken = subst (λ (k : ℕ). k ≤ taken) found full'.not_less in
    let room : length (parcels_sent q old.part.history) < l.taken + session.capacity = l.some refl in
    let much : sent ≡ taken + session.capacity = full'.full in
    omega arith

-- what a look of a stage that sends tells
pub looked : (session rings : Rings_data) (old standing moved : Stage_data) (peer : Role) (room : Bool) → rings ≡ session → standing ≡ old → old.table ≡ session.table
    → ((arms : List Arm) × (state_of_stage session standing ≡ Some (Puts peer arms))) → LooksForRoom rings peer.0 room standing moved → RoomTells session old moved room
looked session rings old standing moved peer room same is table stands looks =
    let looks' : LooksForRoom session peer.0 room old moved = subst (λ (z : Rings_data × Stage_data). LooksForRoom z.0 peer.0 room z.1 moved) (λ i. (same i, is i)) looks in
    let at : state_of_stage session old ≡ Some (Puts peer stands.0) = ap (state_of_stage session) (sym is) ∙ stands.1 in
    record {
      from = record { table = table; peer = peer; arms = stands.0; stands = at };
      looks = looks';
      of = subst (IsSending session) (sym looks'.becomes) record { table = table; peer = peer; arms = stands.0; stands = at };
    }

-- so of the arms of a state that receives
pub receives_at : (session : Rings_data) (old standing : Stage_data) (peer : Role) (arms : List Arm) → standing ≡ old → (of : IsReceiving session old) → of.peer ≡ peer → of.arms ≡ arms
    → state_of_stage session standing ≡ Some (Takes peer arms)
receives_at session old standing peer arms is of peers same = ap (state_of_stage session) is ∙ of.stands ∙ (λ i. Some (Takes (peers i) (same i)))

pub receives_by : (session : Rings_data) (old standing : Stage_data) (peer : Role) (arms : List Arm) → standing ≡ old → old.table ≡ session.table
    → state_of_stage session standing ≡ Some (Takes peer arms) → (of : IsReceiving session old) × (of.peer ≡ peer) × (of.arms ≡ arms)
receives_by session old standing peer arms is table stands =
    (record { table = table; peer = peer; arms = arms; stands = ap (state_of_stage session) (sym is) ∙ stands }, refl, refl)

-- the stage behind the standing, and the rings of the session
pub went : (session rings : Rings_data) (old standing moved : Stage_data) (place : ℕ) (value : Value) (peer : Role) (arm : Arm) (new : Stage) → rings ≡ session → standing ≡ old
    → SendsBy session old place value → SendsTo session standing place peer arm
    → HasSent rings peer.0 (parcel_by arm value) arm.next standing moved → IsOf session new → sight_of_stage new ≡ moved → IsSent session old place value new
went session rings old standing moved place value peer arm new same is by to sent of now =
    let to' : SendsTo session old place peer arm = subst (λ (z : Stage_data). SendsTo session z place peer arm) is to in
    record {
      by = record { peer = peer; arms = to'.arms; arm = arm; stands = to'.stands; picks = to'.picks; has_sort = sort_by session old place value peer arm by to' };
      sent = subst (λ (z : Rings_data × Stage_data × Stage_data). HasSent z.0 peer.0 (parcel_by arm value) arm.next z.1 z.2) (λ i. (same i, is i, sym now i)) sent;
      of = of;
    }

pub full : (session rings : Rings_data) (old standing moved : Stage_data) (place : ℕ) (value : Value) (peer : Role) (arm : Arm) (sent taken : ℕ) (back : Parcel) → rings ≡ session → standing ≡ old
    → old.table ≡ session.table → SendsBy session old place value → SendsTo session standing place peer arm
    → FindsFull rings peer.0 sent taken standing moved → back ≡ parcel_by arm value → IsHandedBack session old place value moved back.value sent taken
full session rings old standing moved place value peer arm sent taken back same is table by to found backs =
    let to' : SendsTo session old place peer arm = subst (λ (z : Stage_data). SendsTo session z place peer arm) is to in
    let found' : FindsFull session peer.0 sent taken old moved = subst (λ (z : Rings_data × Stage_data). FindsFull z.0 peer.0 sent taken z.1 moved) (λ i. (same i, is i)) found in
    record {
      by = record { peer = peer; arms = to'.arms; arm = arm; stands = to'.stands; picks = to'.picks; has_sort = sort_by session old place value peer arm by to' };
      full = found';
      same = ap (λ (z : Parcel). z.value) backs;
      of = subst (IsSending session) (sym found'.becomes) record { table = table; peer = peer; arms = to'.arms; stands = to'.stands };
    }

pub got : (session rings : Rings_data) (old standing moved : Stage_data) (place : ℕ) (value : Value) (peer : Role) (arms : List Arm) (new : Stage) → rings ≡ session → standing ≡ old
    → state_of_stage session standing ≡ Some (Takes peer arms)
    → HasGotBy rings peer.0 arms place value standing moved → IsOf session new → sight_of_stage new ≡ moved → IsGot session old place value new
got session rings old standing moved place value peer arms new same is stands by of now = record {
  by = record { peer = peer; arms = arms; arm = by.arm; stands = ap (state_of_stage session) (sym is) ∙ stands; picks = by.picks; has_sort = by.has_sort };
  got = subst (λ (z : Rings_data × Stage_data × Stage_data). HasGot z.0 peer.0 (parcel_by by.arm value) by.arm.next z.1 z.2) (λ i. (same i, is i, sym now i)) by.got;
  of = of;
}

pub kept : (session rings : Rings_data) (old standing moved : Stage_data) (peer : Role) (arms : List Arm) (seen : ℕ) → rings ≡ session → standing ≡ old → old.table ≡ session.table
    → state_of_stage session standing ≡ Some (Takes peer arms) → FindsEmpty rings peer.0 seen standing moved → IsKept session old moved seen
kept session rings old standing moved peer arms seen same is table stands found =
    let found' : FindsEmpty session peer.0 seen old moved = subst (λ (z : Rings_data × Stage_data). FindsEmpty z.0 peer.0 seen z.1 moved) (λ i. (same i, is i)) found in
    let at : state_of_stage session old ≡ Some (Takes peer arms) = ap (state_of_stage session) (sym is) ∙ stands in
    record {
      from = record { table = table; peer = peer; arms = arms; stands = at };
      empty = found';
      of = subst (IsReceiving session) (sym found'.becomes) record { table = table; peer = peer; arms = arms; stands = at };
    }

-- there is the state at which a receive leaves the role
pub present_then : (session rings : Rings_data) (standing moved : Stage_data) (peer : Role) (arms : List Arm) (place : ℕ) (value : Value) → AreWellFormed session.machines
    → state_of_stage session standing ≡ Some (Takes peer arms) → HasGotBy rings peer.0 arms place value standing moved → IsSome (state_of_stage session moved)
present_then session rings standing moved peer arms place value well_formed stands by =
    let r : ℕ = standing.role.0 in
    let at = here_is (slice_get session.machines r) standing.part.state (Takes peer arms) stands in
    let fit = (well_formed.fits r at.0 at.1).takes standing.part.state peer arms at.2 in
    subst (λ (z : Stage_data). IsSome (state_of_stage session z)) (sym by.got.becomes) (state_there session.machines r by.arm.next at.0 at.1 (fit.nexts place by.arm by.picks))
