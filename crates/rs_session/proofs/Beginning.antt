-- The passes of first stages.
use Rattle.std.proofs.Common.{◌≡◌, ◌≢◌, inl, inr, ℕ, ◌+◌, ◌<◌, ◌≤◌, Bool, true, false, if◌then◌else◌, List, [], ◌∷◌, length, Option, Some, IsSome, slice_get, refl, sym, ap, ◌∙◌, ◌++◌, subst, map, option_map}
use Rattle.std.proofs.Common.{arith, rules, eq-eqb, length-append}
use Rattle.std.proofs.lemmas.Bool.Decides.{eqb_tells, leb_tells}
use Rattle.std.proofs.lemmas.Option.{slice_get_within, slice_get-map}
use Rattle.rs_model.proofs.Lists.{item_at}
use Rattle.rs_model.specs.Data.{Machine_data}
use Rattle.rs_core.specs.Choices.{AreWellFormed}
use Rattle.rs_core.specs.Configurations.{state_of}
use Rattle.rs_rings.specs.Views.{SpeaksFor, first_part, speaks, the_part, part_of, start_of, starting, view_without_role, alone, joint_view}
use Rattle.rs_rings.specs.declared.views.Part.{Part}
use Rattle.rs_rings.specs.declared.views.View.{View}
use Rattle.rs_rings.proofs.Parts.{the_role}
use Rattle.rs_rings.proofs.Seats.{speaks_one, speaks_without, speaks_gone, the_without, first_speaks, first_part_is, first_below}
use Rattle.rs_rings.specs.Passes.{Rings_data}
use Rattle.rs_session.specs.Data.{Stage_data}
use Rattle.rs_session.specs.Ends.{AreAll, AreOf, IsThere}
use Rattle.rs_session.specs.Stages.{AreFirst, IsOf, first_stage, sight_of_stage}
use Rattle.rs_session.specs.Standing.{IsFirst}
use Rattle.rs_session.specs.declared.stages.Stage.{Stage}
use Rattle.rs_session.proofs.HandedIn.{at_end, in_front, first_speaks_on, second_speaks_on, same_tables}

-- the pass speaks for the roles from number k on, each of which has done nothing
pub record AreFirstFrom (machines : List Machine_data) (k : ℕ) (view : View) : Type 0 where
  pub speaks : (r : ℕ) → k ≤ r → r < length machines → SpeaksFor view r
  pub first : (r : ℕ) → k ≤ r → r < length machines → part_of view r ≡ first_part machines r
  pub only : (r : ℕ) → SpeaksFor view r → (k ≤ r) × (r < length machines)

pub all_first : (machines : List Machine_data) (view : View) → view ≡ starting machines → AreFirstFrom machines 0 view
all_first machines view is = subst (AreFirstFrom machines 0) (sym is) record {
  speaks = λ r from below. first_speaks machines (length machines) r below;
  first = λ r from below. first_part_is machines (length machines) r below;
  only = λ r says. (let b : r < length machines = first_below machines (length machines) r says in (omega arith, b));
}

pub rest_first : (machines : List Machine_data) (k : ℕ) (v w : View) → AreFirstFrom machines k v → w ≡ view_without_role k v → AreFirstFrom machines (k + 1) w
rest_first machines k v w all is = subst (AreFirstFrom machines (k + 1)) (sym is) record {
  speaks = λ r from below. (let ne : r ≢ k = omega arith in speaks_without r k v.parts ne ∙ all.speaks r (omega arith) below);
  first = λ r from below. (let ne : r ≢ k = omega arith in the_without r k v.parts ne ∙ all.first r (omega arith) below);
  only = λ r says. elim (eqb_tells r k) [
    | inl t ↦ (let gone : speaks r (view_without_role k v).parts ≡ false = ap (λ (z : ℕ). speaks z (view_without_role k v).parts) t.1 ∙ speaks_gone k v.parts in absurd (cc (gone, says)))
    | inr t ↦ (let at = all.only r (sym (speaks_without r k v.parts t.1) ∙ says) in let ne = t.1 in (omega arith, at.1))
  ];
}

pub own_first : (machines : List Machine_data) (k : ℕ) (v w : View) → AreFirstFrom machines k v → k < length machines → w ≡ alone k v → IsFirst machines k w
own_first machines k v w all below is =
    let says : speaks k v.parts ≡ true = all.speaks k (omega arith) below in
    let role : (the_part k v.parts).role ≡ k = the_role k v.parts says in
    let same = eq-eqb k (the_part k v.parts).role (sym role) in
    subst (IsFirst machines k) (sym is) record {
      below = below;
      speaks = subst (λ (b : Bool). (if b then true else false) ≡ true) (sym same) refl;
      only = λ y at. speaks_one y (the_part k v.parts) at ∙ role;
      first = subst (λ (b : Bool). (if b then the_part k v.parts else the_part k []) ≡ the_part k v.parts) (sym same) refl ∙ all.first k (omega arith) below;
    }

pub is_some : {A : Type 0} (o : Option A) (x : A) → o ≡ Some x → IsSome o
is_some o x e = subst IsSome (sym e) (search rules)

-- a state of that number is there in a machine that has so many
pub state_there : (machines : List Machine_data) (r s : ℕ) (m : Machine_data) → slice_get machines r ≡ Some m → s < length m.states → IsSome (state_of (slice_get machines r) s)
state_there machines r s m is below = let at = item_at m.states s below in is_some (state_of (slice_get machines r) s) at.0 (ap (λ (o : Option Machine_data). state_of o s) is ∙ at.1)

pub first_there : (machines : List Machine_data) (r : ℕ) (m : Machine_data) (view : View) → AreWellFormed machines → slice_get machines r ≡ Some m → IsFirst machines r view
    → IsSome (state_of (slice_get machines r) (part_of view r).state)
first_there machines r m view well_formed is first =
    let at : (part_of view r).state ≡ m.start = ap (λ (z : Part). z.state) first.first ∙ ap start_of is in
    subst (λ (s : ℕ). IsSome (state_of (slice_get machines r) s)) (sym at) (state_there machines r m.start m is (well_formed.fits r m is).start)

-- the first so many stages
pub record AreBegun (session : Rings_data) (n : ℕ) (stages : List Stage) : Type 0 where
  pub count : length stages ≡ n
  pub each : (r : ℕ) → r < n → (stage : Stage) × (slice_get stages r ≡ Some stage) × IsOf session stage × (sight_of_stage stage ≡ first_stage session r)

pub begun_more : (session : Rings_data) (n : ℕ) (stages stages' : List Stage) (stage : Stage) → AreBegun session n stages → IsOf session stage → sight_of_stage stage ≡ first_stage session n
    → stages' ≡ stages ++ stage ∷ [] → AreBegun session (n + 1) stages'
begun_more session n stages stages' stage begun of first is = subst (AreBegun session (n + 1)) (sym is) record {
  count = length-append stages (stage ∷ []) ∙ ap (λ (k : ℕ). k + 1) begun.count;
  each = λ r below. elim (eqb_tells r n) [
    | inl t ↦ (stage, ap (slice_get (stages ++ stage ∷ [])) (t.1 ∙ sym begun.count) ∙ at_end stages stage, of, first ∙ ap (first_stage session) (sym t.1))
    | inr t ↦ (let ne = t.1 in let at = begun.each r (omega arith) in (at.0, in_front stages stage at.0 r at.1, at.2, at.3))
  ];
}

pub all_begun : (session : Rings_data) (n : ℕ) (stages : List Stage) → AreBegun session n stages → n ≡ length session.machines → AreFirst session stages
all_begun session n stages begun is = record { count = begun.count ∙ is; each = λ r below. begun.each r (omega arith) }

-- the first stages are stages of the session
begun_of : (session : Rings_data) (n : ℕ) (stages : List Stage) → AreBegun session n stages → AreOf session stages
begun_of session n stages begun place stage e =
    let below = slice_get_within stages place stage e in
    let at = begun.each place (omega (arith, below, begun.count)) in
    let same : at.0 ≡ stage = some_once (sym at.1 ∙ e) in
    subst (IsOf session) same at.2
  where
    some_once : {x y : Stage} → Some x ≡ Some y → x ≡ y
    some_once h = cc (h)

pub begun_tables : (session : Rings_data) (n : ℕ) (stages : List Stage) → AreBegun session n stages → AreAll (λ s. s.table ≡ session.table) (map sight_of_stage stages)
begun_tables session n stages begun = same_tables session session stages refl (begun_of session n stages begun)

-- one of the first stages is of each of the first roles
begun_there : (session : Rings_data) (n : ℕ) (stages : List Stage) → AreBegun session n stages → (r : ℕ) → r < n → IsThere (map sight_of_stage stages) r
begun_there session n stages begun r below = let at = begun.each r below in record {
  place = r;
  stage = sight_of_stage at.0;
  stands = slice_get-map sight_of_stage stages r ∙ ap (option_map sight_of_stage) at.1;
  role = ap (λ (z : Stage_data). z.role.0) at.3;
}

-- where a role has no stage its pass comes back, and joins the pass of the roles behind it: this speaks for all from it on
pub from_it_on : (machines : List Machine_data) (k : ℕ) (rest own joined : View) → AreFirstFrom machines (k + 1) rest → SpeaksFor own k → joined ≡ joint_view rest own
    → (r : ℕ) → k ≤ r → r < length machines → SpeaksFor joined r
from_it_on machines k rest own joined all says is r from below = elim (eqb_tells r k) [
  | inl t ↦ second_speaks_on rest own joined r is (subst (SpeaksFor own) (sym t.1) says)
  | inr t ↦ (let ne = t.1 in first_speaks_on rest own joined r is (all.speaks r (omega arith) below))
]

-- with the roles of the first stages these are all roles
pub all_again : (session : Rings_data) (k : ℕ) (stages : List Stage) (rest all : View) → AreBegun session k stages
    → ((r : ℕ) → k ≤ r → r < length session.machines → SpeaksFor rest r) → ((r : ℕ) → SpeaksFor rest r → SpeaksFor all r) → ((r : ℕ) → IsThere (map sight_of_stage stages) r → SpeaksFor all r)
    → (r : ℕ) → r < length session.machines → SpeaksFor all r
all_again session k stages rest all begun from kept speaks r below = elim (leb_tells k r) [
  | inl t ↦ kept r (from r t.1 below)
  | inr t ↦ speaks r (begun_there session k stages begun r t.1)
]
