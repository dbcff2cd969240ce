-- Steps: the law of the actor that plays a talker: it chooses an arm that is there, and a value of its sort.
use Rattle.std.proofs.Common.{◌≡◌, ◌≢◌, ℕ, zero, suc, ◌+◌, ◌^◌, ◌<◌, List, [], ◌∷◌, Option, Some, None, slice_get, Bool, true, false, nat_lt, refl, sym, subst, if◌then◌else◌, arith}
use Rattle.rs_model.specs.Sorts.{HasSort}
use Rattle.rs_model.specs.Serving.{Serves, serves}
use Rattle.rs_model.specs.declared.graph.Arm.{Arm}
use Rattle.rs_model.specs.declared.values.Sort.{Sort}
use Rattle.rs_model.specs.declared.values.Sort.TheVariants as sort
use Rattle.rs_model.specs.declared.values.Value.{Value}
use Rattle.rs_model.specs.declared.values.Value.TheVariants as value
use Rattle.rs_model.proofs.EmptyValues.{empty_fits}
use Rattle.rs_model.proofs.Serving.{has_served_sort, serves_by_test, test_by_serves}
use Rattle.rs_core.specs.Actors.{ChoosesWell}
use Rattle.rs_actors.specs.Talking.{Conduct, IsFirstArm, sort_of, carried, first_place, arm_place, arm_for, empty_for, chosen_at, by_sorts}

-- what is carried has the sort of the value
carried_fits : (v : Value) → HasSort (carried v) (sort_of v)
carried_fits value.Unit = refl
carried_fits (value.Flag b) = refl
carried_fits (value.Natural n) = go (nat_lt n (2 ^ 63)) refl
  where
    go : (b : Bool) → nat_lt n (2 ^ 63) ≡ b → HasSort (if b then value.Natural n else value.Natural 0) sort.Natural
    go true e = e
    go false e = refl
carried_fits (value.Whole z) = refl
carried_fits (value.Octets bytes) = refl
carried_fits (value.Numbers zs) = refl

-- the place is that of the first such arm, which stands so many places on
pub record Found (s : Sort) (from : ℕ) (arms : List Arm) (place : ℕ) : Type 0 where
  pub on : ℕ
  pub place_is : place ≡ from + on
  pub is_first : IsFirstArm s arms on

at_start : (a : Arm) (arms : List Arm) (s : Sort) → serves s a.sort ≡ true → IsFirstArm s (a ∷ arms) 0
at_start a arms s h = record { arm = a; stands = refl; serves = serves_by_test s a.sort h; first = λ earlier other less stands serves. absurd (omega (arith, less)) }

further_on : (a : Arm) (arms : List Arm) (s : Sort) (on : ℕ) → serves s a.sort ≡ false → IsFirstArm s arms on → IsFirstArm s (a ∷ arms) (suc on)
further_on a arms s on h f = record { arm = f.arm; stands = f.stands; serves = f.serves; first = go }
  where
    go : (earlier : ℕ) (other : Arm) → earlier < suc on → slice_get (a ∷ arms) earlier ≡ Some other → Serves s other.sort → ⊥
    go zero other less stands serve =
        let e : a ≡ other = cc (stands) in
        let k : serves s a.sort ≡ true = test_by_serves s a.sort (subst (λ (z : Arm). Serves s z.sort) (sym e) serve) in
        cc (h, k)
    go (suc earlier) other less stands serve = f.first earlier other (omega (arith, less)) stands serve

-- the place that is found is that of the first arm
pub found : (arms : List Arm) (s : Sort) (from place : ℕ) → first_place s from arms ≡ Some place → Found s from arms place
found [] s from place e = absurd (cc (e))
found (a ∷ arms) s from place e = go (λ k. found arms s (from + 1) place k) (serves s a.sort) refl e
  where
    go : (first_place s (from + 1) arms ≡ Some place → Found s (from + 1) arms place) → (b : Bool) → serves s a.sort ≡ b
        → (if b then Some from else first_place s (from + 1) arms) ≡ Some place → Found s from (a ∷ arms) place
    go later true h k = let z : from ≡ place = cc (k) in record { on = 0; place_is = omega (arith, z); is_first = at_start a arms s h }
    go later false h k = let r = later k in record { on = suc r.on; place_is = omega (arith, r.place_is); is_first = further_on a arms s r.on h r.is_first }

-- at the first arm a value of the sort may stand
pub is_found : (arms : List Arm) (s : Sort) (place : ℕ) → arm_place s arms ≡ Some place → IsFirstArm s arms place
is_found arms s place e =
    let r = found arms s 0 place e in
    let same : r.on ≡ place = omega (arith, r.place_is) in
    subst (λ (z : ℕ). IsFirstArm s arms z) same r.is_first

-- the first arm is there, and its empty value has its sort
first_there : (arms : List Arm) → arms ≢ [] → (arm : Arm) × (slice_get arms 0 ≡ Some arm) × HasSort (empty_for arms) arm.sort
first_there [] some = absurd (some refl)
first_there (a ∷ arms) some = (a, refl, empty_fits a.sort)

-- the actor that plays a talker chooses an arm that is there, and a value of its sort
pub chooses_by_sorts : {T : Type 0} (c : Conduct T) → ChoosesWell (by_sorts c)
chooses_by_sorts {T} c x arms some = go (arm_for c x arms) refl
  where
    go : (o : Option ℕ) → arm_for c x arms ≡ o → (arm : Arm) × (slice_get arms (chosen_at c x arms o).0 ≡ Some arm) × HasSort (chosen_at c x arms o).1 arm.sort
    go None e = first_there arms some
    go (Some place) e =
        let r = is_found arms (sort_of (c.at_hand x)) place e in
        (r.arm, r.stands, has_served_sort (carried (c.at_hand x)) (sort_of (c.at_hand x)) r.arm.sort (carried_fits (c.at_hand x)) r.serves)
