-- What an act makes of a player, and what cuts and joins make of passes.
use Rattle.std.proofs.Common.{◌≡◌, ◌≢◌, ℕ, zero, suc, ◌+◌, ◌<◌, List, [], ◌∷◌, ◌++◌, length, Option, Some, None, IfSome, IfNone, Result, Ok, Err, IfOk, slice_get, Bool, true, false, if◌then◌else◌}
use Rattle.std.proofs.Common.{eq-eqb, ⊎_elim, refl, sym, ap, ◌∙◌, subst, arith, length-append}
use Rattle.rs_model.specs.Data.{Machine_data}
use Rattle.rs_model.specs.declared.memory.NoMemory.{NoMemory}
use Rattle.rs_model.specs.declared.graph.Arm.{Arm}
use Rattle.rs_model.specs.declared.graph.Role.{Role}
use Rattle.rs_model.specs.declared.machines.State.TheVariants.{Done, Takes}
use Rattle.rs_core.specs.Choices.{AreWellFormed}
use Rattle.rs_core.specs.Configurations.{state_of}
use Rattle.rs_core.specs.Histories.{Action, History}
use Rattle.rs_slots.specs.declared.parcels.Parcel.{Parcel}
use Rattle.rs_rings.specs.Acts.{sent_act, got_act, MayPut, MayTake}
use Rattle.rs_rings.specs.Passes.{Rings_data, Pass_data, IsChanged, IsPut, RingIsFull, ParcelIsTaken, IsEmpty, CanTake}
use Rattle.rs_rings.specs.Views.{SpeaksFor, speaks, the_part, part_of, state_in, history_in, part_with_room, part_with_parcel, gaining, sending, taking, getting, view_without_role, alone, joint_view}
use Rattle.rs_rings.specs.Views.{starting, start_of}
use Rattle.rs_rings.specs.declared.views.Part.{Part}
use Rattle.rs_rings.specs.declared.views.View.{View}
use Rattle.rs_rings.proofs.Arms.{put_once}
use Rattle.rs_rings.proofs.Parts.{the_role}
use Rattle.rs_rings.proofs.Seats.{bool_cases, speaks_gone, speaks_without, the_without, speaks_left, speaks_right, the_left, the_right, first_speaks, first_part_is}
use Rattle.benches.specs.Players.{PassStands, TakesOne}
use Rattle.benches.specs.Sessions.{machines_of_swap}

one_more : (h : History) (a : Action) → length (h ++ a ∷ []) ≡ length h + 1
one_more h a = length-append h (a ∷ [])

-- what is left of a role whose part is y now
changed : (rings : Rings_data) (pass pass' : Pass_data) (p s n s' n' : ℕ) (y : Part) → PassStands rings pass p s n → pass'.table ≡ pass.table → IsChanged p y pass.view pass'.view → y.state ≡ s'
    → length y.history ≡ n'
    → PassStands rings pass' p s' n'
changed rings pass pass' p s n s' n' y at table c st many = record {
  table = table ∙ at.table;
  speaks = c.spoken p ∙ at.speaks;
  at = ap (λ (z : Part). z.state) c.part ∙ st;
  many = ap (λ (z : Part). length z.history) c.part ∙ many;
}

pub put_on : (rings : Rings_data) (pass pass' : Pass_data) (capacity p q s n next : ℕ) (x : Parcel) → AreWellFormed rings.machines → PassStands rings pass p s n → pass'.table ≡ pass.table
    → MayPut rings.machines p q s x next → IsPut rings.machines capacity p q x pass.view pass'.view → PassStands rings pass' p next (n + 1)
put_on rings pass pass' capacity p q s n next x well_formed at table may put =
    let one : put.next ≡ next = put_once rings.machines p q s x put.next next well_formed (subst (λ (z : ℕ). MayPut rings.machines p q z x put.next) at.at put.may) may in
    changed rings pass pass' p s n next (n + 1) (sending q x put.next put.loads (gaining q put.taken (part_of pass.view p))) at table put.changed one
    (one_more (history_in pass.view p) (sent_act q x) ∙ ap (λ (z : ℕ). z + 1) at.many)

pub full_on : (rings : Rings_data) (pass pass' : Pass_data) (capacity p q s n : ℕ) (x : Parcel) (sent taken : ℕ) (back : Parcel) → PassStands rings pass p s n → pass'.table ≡ pass.table
    → RingIsFull rings.machines capacity p q x sent taken back pass.view pass'.view → PassStands rings pass' p s n
full_on rings pass pass' capacity p q s n x sent taken back at table full =
    changed rings pass pass' p s n s n (part_with_room q taken (part_of pass.view p)) at table full.changed at.at at.many

-- the one arm of a state that takes says where a take leads
pub takes_on : (rings : Rings_data) (pass pass' : Pass_data) (capacity q s n next : ℕ) (p : Role) (x : Parcel) → PassStands rings pass q s n → pass'.table ≡ pass.table
    → TakesOne rings.machines q p s next → ParcelIsTaken rings.machines capacity q p.0 x pass.view pass'.view → PassStands rings pass' q next (n + 1)
takes_on rings pass pass' capacity q s n next p x at table one taken =
    let may : MayTake rings.machines q p.0 s x taken.next = subst (λ (z : ℕ). MayTake rings.machines q p.0 z x taken.next) at.at taken.may in
    let both : Some (Takes p (one.arm ∷ [])) ≡ Some (Takes p may.arms) = sym one.takes ∙ may.takes in
    let arms : one.arm ∷ [] ≡ may.arms = cc (both) in
    let is : taken.next ≡ next = may.goes ∙ only may.place may.arm one.arm (ap (λ (l : List Arm). slice_get l may.place) arms ∙ may.picks) ∙ one.goes in
    changed rings pass pass' q s n next (n + 1) (getting p.0 x taken.next taken.loads (taking p.0 x taken.put (part_of pass.view q))) at table taken.changed is
    (one_more (history_in pass.view q) (got_act p.0 x) ∙ ap (λ (z : ℕ). z + 1) at.many)
  where
    only : (place : ℕ) (a b : Arm) → slice_get (b ∷ []) place ≡ Some a → a.next ≡ b.next
    only zero a b e = let same : b ≡ a = cc (e) in ap (λ (z : Arm). z.next) (sym same)
    only (suc place) a b e = absurd (cc (e))

pub empty_on : (rings : Rings_data) (pass pass' : Pass_data) (q s n p seen : ℕ) → PassStands rings pass q s n → pass'.table ≡ pass.table
    → IsEmpty rings.machines q p seen pass.view pass'.view → PassStands rings pass' q s n
empty_on rings pass pass' q s n p seen at table empty =
    changed rings pass pass' q s n s n (part_with_parcel p seen (part_of pass.view q)) at table empty.changed at.at at.many

pub can_take : (rings : Rings_data) (pass : Pass_data) (q s n next : ℕ) (p : Role) → PassStands rings pass q s n → TakesOne rings.machines q p s next
    → CanTake rings.machines q p (state_in pass.view q)
can_take rings pass q s n next p at one = subst (λ (z : ℕ). CanTake rings.machines q p z) (sym at.at) record { arms = one.arm ∷ []; takes = one.takes }

pub can_put : (rings : Rings_data) (pass : Pass_data) (p q s n next : ℕ) (x : Parcel) → PassStands rings pass p s n → MayPut rings.machines p q s x next
    → (next : ℕ) × MayPut rings.machines p q (state_in pass.view p) x next
can_put rings pass p q s n next x at may = (next, subst (λ (z : ℕ). MayPut rings.machines p q z x next) (sym at.at) may)

-- at the start
pub begun : (rings : Rings_data) (pass : Pass_data) (machines : List Machine_data) → pass.table ≡ rings.table → pass.view ≡ starting machines
    → (r : ℕ) → r < length machines → PassStands rings pass r (start_of (slice_get machines r)) 0
begun rings pass machines table view r l = let part = ap (λ (v : View). the_part r v.parts) view ∙ first_part_is machines (length machines) r l in record {
  table = table;
  speaks = ap (λ (v : View). speaks r v.parts) view ∙ first_speaks machines (length machines) r l;
  at = ap (λ (z : Part). z.state) part;
  many = ap (λ (z : Part). length z.history) part;
}

pub begun_ok : (result : Result (Rings_data × Pass_data) NoMemory) (machines : List Machine_data) → IfOk result (λ t. t.1.table ≡ t.0.table) → IfOk result (λ t. t.1.view ≡ starting machines)
    → IfOk result (λ t. (r : ℕ) → r < length machines → PassStands t.0 t.1 r (start_of (slice_get machines r)) 0)
begun_ok (Ok t) machines table view = begun t.0 t.1 machines table view
begun_ok (Err e) machines table view = tt

pub stand_first : (ms machines : List Machine_data) (rings : Rings_data) (pass : Pass_data) → ms ≡ machines → ((r : ℕ) → r < length ms → PassStands rings pass r (start_of (slice_get ms r)) 0)
    → (r : ℕ) → r < length machines → PassStands rings pass r (start_of (slice_get machines r)) 0
stand_first ms machines rings pass same stand = subst (λ (z : List Machine_data). (r : ℕ) → r < length z → PassStands rings pass r (start_of (slice_get z r)) 0) same stand

-- both of two roles are at their start
pub both_stand_first : (ms machines : List Machine_data) (rings : Rings_data) (pass : Pass_data) → ms ≡ machines → length machines ≡ 2
    → ((r : ℕ) → r < length ms → PassStands rings pass r (start_of (slice_get ms r)) 0)
    → PassStands rings pass 0 (start_of (slice_get machines 0)) 0 × PassStands rings pass 1 (start_of (slice_get machines 1)) 0
both_stand_first ms machines rings pass same two stand =
    let all = stand_first ms machines rings pass same stand in
    let first : 0 < length machines = omega (arith, two) in
    let second : 1 < length machines = omega (arith, two) in
    (all 0 first, all 1 second)

-- a cut
pub cut_own : (rings : Rings_data) (pass own : Pass_data) (r s n : ℕ) → own.table ≡ pass.table → own.view ≡ alone r pass.view → PassStands rings pass r s n → PassStands rings own r s n
cut_own rings pass own r s n table view at =
    let same = eq-eqb r (the_part r pass.view.parts).role (sym (the_role r pass.view.parts at.speaks)) in
    let part : part_of own.view r ≡ part_of pass.view r = ap (λ (v : View). the_part r v.parts) view
    ∙ subst (λ (b : Bool). (if b then the_part r pass.view.parts else the_part r []) ≡ the_part r pass.view.parts) (sym same) refl in
    record {
      table = table ∙ at.table;
      speaks = ap (λ (v : View). speaks r v.parts) view ∙ subst (λ (b : Bool). (if b then true else false) ≡ true) (sym same) refl;
      at = ap (λ (z : Part). z.state) part ∙ at.at;
      many = ap (λ (z : Part). length z.history) part ∙ at.many;
    }

pub cut_gone : (pass pass' : Pass_data) (r : ℕ) → pass'.view ≡ view_without_role r pass.view → speaks r pass'.view.parts ≡ false
cut_gone pass pass' r view = ap (λ (v : View). speaks r v.parts) view ∙ speaks_gone r pass.view.parts

pub cut_others : (rings : Rings_data) (pass pass' : Pass_data) (r : ℕ) → pass'.table ≡ pass.table → pass'.view ≡ view_without_role r pass.view
    → (y s n : ℕ) → y ≢ r → PassStands rings pass y s n → PassStands rings pass' y s n
cut_others rings pass pass' r table view y s n ne at =
    let part = ap (λ (v : View). the_part y v.parts) view ∙ the_without y r pass.view.parts ne in record {
      table = table ∙ at.table;
      speaks = ap (λ (v : View). speaks y v.parts) view ∙ speaks_without y r pass.view.parts ne ∙ at.speaks;
      at = ap (λ (z : Part). z.state) part ∙ at.at;
      many = ap (λ (z : Part). length z.history) part ∙ at.many;
    }

-- a join
pub join_own : (rings : Rings_data) (pass pass' other : Pass_data) → pass'.table ≡ pass.table → pass'.view ≡ joint_view pass.view other.view
    → (r s n : ℕ) → PassStands rings pass r s n → PassStands rings pass' r s n
join_own rings pass pass' other table view r s n at =
    let part = ap (λ (v : View). the_part r v.parts) view ∙ the_left r pass.view.parts other.view.parts at.speaks in record {
      table = table ∙ at.table;
      speaks = ap (λ (v : View). speaks r v.parts) view ∙ speaks_left r pass.view.parts other.view.parts at.speaks;
      at = ap (λ (z : Part). z.state) part ∙ at.at;
      many = ap (λ (z : Part). length z.history) part ∙ at.many;
    }

pub join_other : (rings : Rings_data) (pass pass' other : Pass_data) (r s n : ℕ) → pass.table ≡ rings.table → pass'.table ≡ pass.table → pass'.view ≡ joint_view pass.view other.view
    → speaks r pass.view.parts ≡ false → PassStands rings other r s n → PassStands rings pass' r s n
join_other rings pass pass' other r s n is table view quiet at =
    let part = ap (λ (v : View). the_part r v.parts) view ∙ the_right r pass.view.parts other.view.parts quiet in record {
      table = table ∙ is;
      speaks = ap (λ (v : View). speaks r v.parts) view ∙ speaks_right r pass.view.parts other.view.parts quiet ∙ at.speaks;
      at = ap (λ (z : Part). z.state) part ∙ at.at;
      many = ap (λ (z : Part). length z.history) part ∙ at.many;
    }

pub join_speaks : (pass pass' other : Pass_data) → pass'.view ≡ joint_view pass.view other.view → (r : ℕ) → speaks r other.view.parts ≡ true → speaks r pass'.view.parts ≡ true
join_speaks pass pass' other view r says =
    ap (λ (v : View). speaks r v.parts) view
    ∙ ⊎_elim (λ yes'. speaks_left r pass.view.parts other.view.parts yes') (λ quiet. speaks_right r pass.view.parts other.view.parts quiet ∙ says) (bool_cases (speaks r pass.view.parts))

pub join_keeps : (pass pass' other : Pass_data) → pass'.view ≡ joint_view pass.view other.view → (r : ℕ) → speaks r pass.view.parts ≡ true → speaks r pass'.view.parts ≡ true
join_keeps pass pass' other view r says = ap (λ (v : View). speaks r v.parts) view ∙ speaks_left r pass.view.parts other.view.parts says

-- of two roles
pub all_of_two : (roles : ℕ) (view : View) → roles ≡ 2 → SpeaksFor view 0 → SpeaksFor view 1 → (r : ℕ) → r < roles → SpeaksFor view r
all_of_two roles view two a b zero l = a
all_of_two roles view two a b (suc zero) l = b
all_of_two roles view two a b (suc (suc r)) l = absurd (omega arith)

-- of three roles all speak
pub all_of_three : (roles : ℕ) (view : View) → roles ≡ 3 → SpeaksFor view 0 → SpeaksFor view 1 → SpeaksFor view 2 → (r : ℕ) → r < roles → SpeaksFor view r
all_of_three roles view three a b c zero l = a
all_of_three roles view three a b c (suc zero) l = b
all_of_three roles view three a b c (suc (suc zero)) l = c
all_of_three roles view three a b c (suc (suc (suc r))) l = absurd (omega arith)

-- both have ended
pub both_done : (rings : Rings_data) (pass : Pass_data) (n m : ℕ) → rings.roles ≡ 2 → rings.machines ≡ machines_of_swap → PassStands rings pass 0 2 n → PassStands rings pass 1 2 m
    → (r : ℕ) → r < rings.roles → state_of (slice_get rings.machines r) (state_in pass.view r) ≡ Some Done
both_done rings pass n m two ms a b zero l = ap (λ (z : List Machine_data × ℕ). state_of (slice_get z.0 0) z.1) (λ i. (ms i, a.at i))
both_done rings pass n m two ms a b (suc zero) l = ap (λ (z : List Machine_data × ℕ). state_of (slice_get z.0 1) z.1) (λ i. (ms i, b.at i))
both_done rings pass n m two ms a b (suc (suc r)) l = absurd (omega arith)

-- a send that leads from the start state to the start state leaves it, whether it went or not
pub stays_at : (result : Option Parcel) (s old n m : ℕ) (x : Parcel) → old ≡ 0 → IfNone result ((s ≡ 0) × (n ≡ m + 1)) → IfSome result (λ back. (back ≡ x) × (s ≡ old) × (n ≡ m)) → s ≡ 0
stays_at None s old n m x is went full = went.0
stays_at (Some back) s old n m x is went full = full.1 ∙ is
