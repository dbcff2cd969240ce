-- What an act of a role makes of its pass.
use Rattle.std.proofs.Common.{◌≡◌, ℕ, ◌+◌, Bool, List, [], ◌∷◌, length, Option, Some, None, slice_get, refl, sym, ap, ◌∙◌, subst, length-append}
use Rattle.rs_model.specs.Sorts.{HasSort}
use Rattle.rs_model.specs.declared.graph.Arm.{Arm}
use Rattle.rs_model.specs.declared.graph.Label.{Label}
use Rattle.rs_model.specs.declared.graph.Role.{Role}
use Rattle.rs_model.specs.declared.machines.State.TheVariants.{Puts, Takes}
use Rattle.rs_model.specs.declared.values.Value.{Value}
use Rattle.rs_core.specs.Choices.{AreWellFormed}
use Rattle.rs_core.specs.Configurations.{state_of}
use Rattle.rs_core.specs.Choosable.{label_of}
use Rattle.rs_core.proofs.Stands.{here_is}
use Rattle.rs_slots.specs.declared.parcels.Parcel.{Parcel}
use Rattle.rs_rings.specs.Acts.{sent_act, got_act, MayPut}
use Rattle.rs_rings.specs.Passes.{Rings_data, Pass_data, IsChanged, IsPut, ParcelIsTaken, RoomTells, SendsTo}
use Rattle.rs_rings.specs.Views.{part_of, part_with_room, state_in, gaining, sending, taking, getting}
use Rattle.rs_rings.specs.declared.views.Part.{Part}
use Rattle.rs_rings.specs.declared.views.View.{View}
use Rattle.rs_rings.proofs.Arms.{put_once}
use Rattle.rs_session.specs.Acts.{parcel_by, HasSent, FindsFull, HasGot, FindsEmpty, LooksForRoom}
use Rattle.rs_session.specs.Data.{Stage_data}
use Rattle.rs_session.specs.Standing.{IsOne, HasGotBy, sight_of_pass}

-- what the pass knows of its role is y now
one_changed : (v w : View) (role : Role) (s n t m : ℕ) (y : Part) → IsOne v role s n → IsChanged role.0 y v w → t ≡ y.state → m ≡ length y.history → IsOne w role t m
one_changed v w role s n t m y one c state acts = record {
  speaks = c.spoken role.0 ∙ one.speaks;
  only = λ r says. one.only r (sym (c.spoken r) ∙ says);
  is_state = state ∙ sym (ap (λ (z : Part). z.state) c.part);
  is_acts = acts ∙ sym (ap (λ (z : Part). length z.history) c.part);
}

-- a put
pub record Put (rings : Rings_data) (q : ℕ) (x : Parcel) (next n : ℕ) (old : Stage_data) (role : Role) (pass : Pass_data) : Type 0 where
  pub one : IsOne pass.view role next (n + 1)
  pub sent : HasSent rings q x next old (sight_of_pass pass role)

pub put_done : (rings : Rings_data) (q : ℕ) (x : Parcel) (next s n : ℕ) (old : Stage_data) (role : Role) (pass pass' : Pass_data) → sight_of_pass pass role ≡ old → AreWellFormed rings.machines
    → MayPut rings.machines old.role.0 q old.part.state x next → IsOne pass.view role s n → IsPut rings.machines rings.capacity role.0 q x pass.view pass'.view → pass'.table ≡ pass.table
    → Put rings q x next n old role pass'
put_done rings q x next s n old role pass pass' is well_formed may one put table =
    subst (λ (z : Stage_data). MayPut rings.machines z.role.0 q z.part.state x next → Put rings q x next n z role pass') is by may
  where
    by : MayPut rings.machines role.0 q (part_of pass.view role.0).state x next → Put rings q x next n (sight_of_pass pass role) role pass'
    by can =
        let a : Part = part_of pass.view role.0 in
        let same : put.next ≡ next = put_once rings.machines role.0 q a.state x put.next next well_formed put.may can in
        let part : part_of pass'.view role.0 ≡ sending q x next put.loads (gaining q put.taken a) = put.changed.part ∙ ap (λ (m : ℕ). sending q x m put.loads (gaining q put.taken a)) same in
        record {
          one = one_changed pass.view pass'.view role s n next (n + 1) (sending q x put.next put.loads (gaining q put.taken a)) one put.changed (sym same)
              (ap (λ (m : ℕ). m + 1) one.is_acts ∙ sym (length-append a.history (sent_act q x ∷ [])));
          sent = record {
            taken = put.taken;
            not_less = put.not_less;
            room = put.room;
            not_more = put.not_more;
            below = put.below;
            read = put.read;
            happened = put.happened;
            loads = put.loads;
            becomes = λ i. record { table = table i; role = role; part = part i };
          };
        }

pub record Full (rings : Rings_data) (q : ℕ) (x : Parcel) (sent taken : ℕ) (back : Parcel) (s n : ℕ) (old : Stage_data) (role : Role) (pass : Pass_data) : Type 0 where
  pub one : IsOne pass.view role s n
  pub full : FindsFull rings q sent taken old (sight_of_pass pass role)
  pub same : back ≡ x

-- a look for room
pub record Looked (rings : Rings_data) (q : ℕ) (room : Bool) (s n : ℕ) (old : Stage_data) (role : Role) (pass : Pass_data) : Type 0 where
  pub one : IsOne pass.view role s n
  pub looks : LooksForRoom rings q room old (sight_of_pass pass role)

pub room_looked : (rings : Rings_data) (q : ℕ) (room : Bool) (s n : ℕ) (old : Stage_data) (role : Role) (pass pass' : Pass_data) → sight_of_pass pass role ≡ old → IsOne pass.view role s n
    → RoomTells rings.machines rings.capacity role.0 q pass.view pass'.view room → pass'.table ≡ pass.table → Looked rings q room s n old role pass'
room_looked rings q room s n old role pass pass' is one told table =
    let a : Part = part_of pass.view role.0 in
    subst (λ (z : Stage_data). Looked rings q room s n z role pass') is record {
      one = one_changed pass.view pass'.view role s n s n (part_with_room q told.taken a) one told.changed one.is_state one.is_acts;
      looks = record {
        taken = told.taken;
        not_less = told.not_less;
        not_more = told.not_more;
        some = told.some;
        none = told.none;
        read = told.read;
        becomes = λ i. record { table = table i; role = role; part = told.changed.part i };
      };
    }

pub sends_there : (rings : Rings_data) (peer : Role) (old : Stage_data) (role : Role) (pass : Pass_data) → sight_of_pass pass role ≡ old
    → ((arms : List Arm) × (state_of (slice_get rings.machines old.role.0) old.part.state ≡ Some (Puts peer arms))) → SendsTo rings.machines role.0 peer (state_in pass.view role.0)
sends_there rings peer old role pass is stands =
    record { arms = stands.0; puts = ap (λ (z : Stage_data). state_of (slice_get rings.machines z.role.0) z.part.state) is ∙ stands.1 }

-- a look
pub stands_there : (rings : Rings_data) (peer : Role) (arms : List Arm) (old : Stage_data) (role : Role) (pass : Pass_data) → sight_of_pass pass role ≡ old
    → state_of (slice_get rings.machines old.role.0) old.part.state ≡ Some (Takes peer arms) → state_of (slice_get rings.machines role.0) (state_in pass.view role.0) ≡ Some (Takes peer arms)
stands_there rings peer arms old role pass is stands = ap (λ (z : Stage_data). state_of (slice_get rings.machines z.role.0) z.part.state) is ∙ stands

pub arm_of_label : (o : Option Arm) (l : Label) → label_of o ≡ Some l → (arm : Arm) × (o ≡ Some arm) × (arm.label ≡ l)
arm_of_label None l e = absurd (cc (e))
arm_of_label (Some arm) l e = (arm, refl, cc (e))

pub record Taken (rings : Rings_data) (p : ℕ) (arms : List Arm) (place : ℕ) (value : Value) (next n : ℕ) (old : Stage_data) (role : Role) (pass : Pass_data) : Type 0 where
  pub one : IsOne pass.view role next (n + 1)
  pub got : HasGotBy rings p arms place value old (sight_of_pass pass role)

pub look_one : (rings : Rings_data) (peer : Role) (arms : List Arm) (x : Parcel) (place s n : ℕ) (old : Stage_data) (role : Role) (pass pass' : Pass_data) (arm : Arm) → sight_of_pass pass role ≡ old
    → AreWellFormed rings.machines
    → state_of (slice_get rings.machines old.role.0) old.part.state ≡ Some (Takes peer arms) → slice_get arms place ≡ Some arm → arm.label ≡ x.label → IsOne pass.view role s n
    → ParcelIsTaken rings.machines rings.capacity role.0 peer.0 x pass.view pass'.view → pass'.table ≡ pass.table
    → Taken rings peer.0 arms place x.value arm.next n old role pass'
look_one rings peer arms x place s n old role pass pass' arm is well_formed stands picks label one taken table =
    subst (λ (z : Stage_data). state_of (slice_get rings.machines z.role.0) z.part.state ≡ Some (Takes peer arms) → Taken rings peer.0 arms place x.value arm.next n z role pass') is by stands
  where
    by : state_of (slice_get rings.machines role.0) (part_of pass.view role.0).state ≡ Some (Takes peer arms) → Taken rings peer.0 arms place x.value arm.next n (sight_of_pass pass role) role pass'
    by takes =
        let a : Part = part_of pass.view role.0 in
        let at = here_is (slice_get rings.machines role.0) a.state (Takes peer arms) takes in
        let fit = (well_formed.fits role.0 at.0 at.1).takes a.state peer arms at.2 in
        let both : Some (Takes peer taken.may.arms) ≡ Some (Takes peer arms) = sym taken.may.takes ∙ takes in
        let all : taken.may.arms ≡ arms = cc (both) in
        let there : slice_get arms taken.may.place ≡ Some taken.may.arm = ap (λ (l : List Arm). slice_get l taken.may.place) (sym all) ∙ taken.may.picks in
        let at_one : place ≡ taken.may.place = fit.once place taken.may.place arm taken.may.arm picks there (label ∙ sym taken.may.same_label) in
        let same' : Some arm ≡ Some taken.may.arm = sym picks ∙ ap (slice_get arms) at_one ∙ there in
        let same : arm ≡ taken.may.arm = cc (same') in
        let next : taken.next ≡ arm.next = taken.may.goes ∙ ap (λ (z : Arm). z.next) (sym same) in
        let parcel : x ≡ parcel_by arm x.value = λ i. record { label = sym label i; value = x.value } in
        let part : part_of pass'.view role.0 ≡ getting peer.0 x arm.next taken.loads (taking peer.0 x taken.put a)
        = taken.changed.part ∙ ap (λ (m : ℕ). getting peer.0 x m taken.loads (taking peer.0 x taken.put a)) next in
        let got : HasGot rings peer.0 x arm.next (sight_of_pass pass role) (sight_of_pass pass' role)
        = record {
          put = taken.put;
          not_less = taken.not_less;
          more = taken.more;
          above = taken.above;
          not_more = taken.not_more;
          read = taken.read;
          happened = taken.happened;
          loads = taken.loads;
          becomes = λ i. record { table = table i; role = role; part = part i };
        } in
        record {
          one = one_changed pass.view pass'.view role s n arm.next (n + 1) (getting peer.0 x taken.next taken.loads (taking peer.0 x taken.put a)) one taken.changed (sym next)
              (ap (λ (m : ℕ). m + 1) one.is_acts ∙ sym (length-append a.history (got_act peer.0 x ∷ [])));
          got = record {
            arm = arm;
            picks = picks;
            has_sort = subst (λ (z : Arm). HasSort x.value z.sort) (sym same) taken.may.has_sort;
            got = subst (λ (z : Parcel). HasGot rings peer.0 z arm.next (sight_of_pass pass role) (sight_of_pass pass' role)) parcel got;
          };
        }

pub record Nothing (rings : Rings_data) (p seen s n : ℕ) (old : Stage_data) (role : Role) (pass : Pass_data) : Type 0 where
  pub one : IsOne pass.view role s n
  pub empty : FindsEmpty rings p seen old (sight_of_pass pass role)
