-- The projections and machines of a session, as they are found one by one.
use Rattle.std.proofs.Common.{min, drop, append-nil, slice_index_or, ◌≡◌, ◌⊎◌, ℕ, zero, suc, ◌+◌, ◌<◌, ◌≤◌, List, [], ◌∷◌, ◌++◌, length, Option, Some, None, refl, sym, ap, subst, ◌∙◌, inl, inr}
use Rattle.std.proofs.Common.{All, IfSome, arith, slice_get, length-append}
use Rattle.std.proofs.lemmas.Option.{slice_get-get_or, slice_get_within}
use Rattle.rs_model.specs.Data.{Protocol_data, Machine_data}
use Rattle.rs_model.proofs.Faults.{right}
use Rattle.rs_model.specs.Faults.{first_fault}
use Rattle.rs_model.specs.declared.checks.MachineFault.{MachineFault}
use Rattle.rs_model.specs.declared.limits.TheConstants.{MOST_STATES}
use Rattle.rs_project.proofs.Machines.{projection_machine}
use Rattle.rs_project.specs.Data.{Projection_data}
use Rattle.rs_project.specs.Numbered.{IsNumberedProjection, AreFirstProjections, AreNumberedProjections}
use Rattle.rs_project.specs.Projection.{AreProjections}
use Rattle.rs_project.specs.Refusals.{FirstRefusal}
use Rattle.rs_project.specs.declared.projecting.ProjFault.{ProjFault}
use Rattle.rs_project.specs.declared.projecting.ProjFault.TheVariants as proj
use Rattle.rs_wellformed.specs.WellFormed.{IsWellFormed}
use Rattle.rs_documents.specs.Data.{Document_data}
use Rattle.rs_documents.specs.Ready.{AreShort, DocumentIsReady}
use Rattle.rs_answers.specs.OwnMachines.{first_own_refusal}
use Rattle.rs_answers.specs.Sessions.{MachineRefusal, Refuses, first_refusal, machine_or, machines_of, refusal_or}

pub last_or_before : {A : Type 0} (xs : List A) (y : A) (q : ℕ) (x : A) → slice_get (xs ++ y ∷ []) q ≡ Some x → (slice_get xs q ≡ Some x) ⊎ ((q ≡ length xs) × (y ≡ x))
last_or_before [] y zero x e = inr (refl, cc)
last_or_before [] y (suc q) x e = absurd cc
last_or_before (z ∷ zs) y zero x e = inl e
last_or_before (z ∷ zs) y (suc q) x e = elim (last_or_before zs y q x e) [
  | inl before ↦ inl before
  | inr last ↦ inr (ap suc last.0, last.1)
]

get_appended : (protocol : Protocol_data) (xs : List Projection_data) (count : ℕ) (y : Projection_data) (q : ℕ) (x : Projection_data) → AreFirstProjections protocol count xs → length xs ≡ count
    → IsNumberedProjection protocol (record { 0 = count }) y
    → slice_get (xs ++ y ∷ []) q ≡ Some x → IsNumberedProjection protocol (record { 0 = q }) x
get_appended protocol xs count y q x h many p e = elim (last_or_before xs y q x e) [
  | inl before ↦ h.each q x before
  | inr last ↦
      let same : y ≡ x = last.1 in
      let place : q ≡ count = last.0 ∙ many in
      subst (λ (z : Projection_data). IsNumberedProjection protocol (record { 0 = q }) z) same (subst (λ (n : ℕ). IsNumberedProjection protocol (record { 0 = n }) y) (sym place) p)
]

-- one projection more
pub next_projection : (protocol : Protocol_data) (count : ℕ) (projections : List Projection_data) (projection : Projection_data) → AreFirstProjections protocol count projections
    → IsNumberedProjection protocol (record { 0 = count }) projection
    → AreFirstProjections protocol (count + 1) (projections ++ projection ∷ [])
next_projection protocol count projections projection h p =
    let size = length-append projections (projection ∷ []) in
    let many = h.many in
    record { many = omega (arith, size); each = λ q x e. get_appended protocol projections count projection q x h many p e }

pub no_projections : (protocol : Protocol_data) → AreFirstProjections protocol 0 []
no_projections protocol = record { many = refl; each = λ p x e. absurd cc }

-- the role onto which there is none
pub refused_at : (protocol : Protocol_data) (count : ℕ) (projections : List Projection_data) (e : ProjFault) → count < protocol.roles → AreFirstProjections protocol count projections
    → (e ≡ proj.NoMemory) ⊎ FirstRefusal protocol (record { 0 = count }) e
    → (e ≡ proj.NoMemory) ⊎ Refuses protocol e
refused_at protocol count projections e lt h (inl none) = inl none
refused_at protocol count projections e lt h (inr r) = inr (record { 0 = count }, record { known = lt; earlier = projections; projected = h; refused = r })

drop_none : (place : ℕ) → drop {A = Option Machine_data} place [] ≡ []
drop_none zero = refl
drop_none (suc n) = refl

none_more : (own : List (Option Machine_data)) → machines_of own [] ≡ []
none_more [] = refl
none_more (y ∷ ys) = refl

none_left : (own : List (Option Machine_data)) (projections : List Projection_data) (place : ℕ) → min (length own) (length projections) ≤ place
    → machines_of (drop place own) (drop place projections) ≡ []
none_left [] projections place le = ap (λ z. machines_of z (drop place projections)) (drop_none place)
none_left (x ∷ xs) [] zero le = refl
none_left (x ∷ xs) [] (suc place) le = none_more (drop place xs)
none_left (x ∷ xs) (p ∷ ps) zero le = absurd (omega arith)
none_left (x ∷ xs) (p ∷ ps) (suc place) le = none_left xs ps place (omega arith)

-- all are chosen where the places are done
pub all_chosen : (own : List (Option Machine_data)) (projections : List Projection_data) (machines : List Machine_data) (place : ℕ) → min (length own) (length projections) ≤ place
    → machines ++ machines_of (drop place own) (drop place projections) ≡ machines_of own projections → machines ≡ machines_of own projections
all_chosen own projections machines place le e =
    sym (append-nil machines) ∙ ap (λ z. machines ++ z) (sym (none_left own projections place le)) ∙ e

pub chosen_size : (own : List (Option Machine_data)) (projections : List Projection_data) → length own ≡ length projections → length (machines_of own projections) ≡ length projections
chosen_size [] [] e = refl
chosen_size [] (p ∷ ps) e = absurd cc
chosen_size (x ∷ xs) [] e = absurd cc
chosen_size (x ∷ xs) (p ∷ ps) e = ap suc (chosen_size xs ps (cc))

small_one : (own : Option Machine_data) (p : Projection_data) → ((m : Machine_data) → own ≡ Some m → length m.states < 4294967296) → length p.machine.states < 4294967296
    → length (machine_or own p).states < 4294967296
small_one None p h k = k
small_one (Some m) p h k = h m refl

-- none of them has many states
pub chosen_small : (own : List (Option Machine_data)) (projections : List Projection_data) → AreShort own
    → ((k : ℕ) (p : Projection_data) → slice_get projections k ≡ Some p → length p.machine.states ≤ MOST_STATES)
    → (k : ℕ) (d : Machine_data) → k < length (machines_of own projections) → length (slice_index_or (machines_of own projections) k d).states < 4294967296
chosen_small [] projections short few k d lt = absurd (omega arith)
chosen_small (x ∷ xs) [] short few k d lt = absurd (omega arith)
chosen_small (x ∷ xs) (p ∷ ps) short few zero d lt =
    small_one x p (λ m e. let a : length m.states ≤ MOST_STATES = short 0 m (ap Some e) in omega arith) (let b : length p.machine.states ≤ MOST_STATES = few 0 p refl in omega arith)
chosen_small (x ∷ xs) (p ∷ ps) short few (suc k) d lt = chosen_small xs ps (λ j m e. short (suc j) m e) (λ j q e. few (suc j) q e) k d (omega arith)

sizes : (own : List (Option Machine_data)) (d : Document_data) (projections : List Projection_data) → own ≡ d.machines → DocumentIsReady d → length d.names.roles ≡ d.protocol.roles
    → AreNumberedProjections d.protocol projections → length own ≡ length projections
sizes own d projections e ready roles h = ap length e ∙ ready.one_each ∙ roles ∙ sym h.many

pub few_states : (protocol : Protocol_data) (projections : List Projection_data) → AreNumberedProjections protocol projections → (k : ℕ) (p : Projection_data) → slice_get projections k ≡ Some p
    → length p.machine.states ≤ MOST_STATES
few_states protocol projections h k p e =
    let x = h.each k p e in
    let is = x.is_projection in
    let all = is.all in
    let few = x.bounded in
    omega arith

pub chosen_small_by : (d : Document_data) (own : List (Option Machine_data)) (projections : List Projection_data) (machines : List Machine_data) → own ≡ d.machines → DocumentIsReady d
    → AreNumberedProjections d.protocol projections → machines ≡ machines_of own projections → (k : ℕ) (x : Machine_data) → k < length machines
    → length (slice_index_or machines k x).states < 4294967296
chosen_small_by d own projections machines e ready h is =
    subst (λ (z : List Machine_data). (k : ℕ) (x : Machine_data) → k < length z → length (slice_index_or z k x).states < 4294967296) (sym is)
    (chosen_small own projections (subst AreShort (sym e) ready.short) (few_states d.protocol projections h))

-- what is told of projections is what the law of equal sessions asks
pub projections_are : (protocol : Protocol_data) (projections : List Projection_data) → AreNumberedProjections protocol projections → AreProjections protocol projections
projections_are protocol projections h = record { many = h.many; each = λ p projection e. let x = h.each p projection e in x.is_projection }

-- the machine of a projection is well formed
projection_fits : (protocol : Protocol_data) (projections : List Projection_data) → IsWellFormed protocol → AreNumberedProjections protocol projections
    → (place : ℕ) (p : Projection_data) → slice_get projections place ≡ Some p → first_fault p.machine protocol.roles ≡ None
projection_fits protocol projections well h place p at =
    let known : place < length projections = slice_get_within projections place p at in
    right p.machine protocol.roles
    (projection_machine protocol (record { 0 = place }) p well (let many = h.many in omega (arith, known, many)) (h.each place p at).is_projection)

-- so the first machine that isn't well formed is an own one
refused_of_own : (roles : ℕ) (own : List (Option Machine_data)) (projections : List Projection_data) → length own ≡ length projections
    → ((place : ℕ) (p : Projection_data) → slice_get projections place ≡ Some p → first_fault p.machine roles ≡ None)
    → first_refusal roles (machines_of own projections) ≡ first_own_refusal roles own
refused_of_own roles [] projections e fit = refl
refused_of_own roles (x ∷ own) [] e fit = absurd cc
refused_of_own roles (None ∷ own) (p ∷ projections) e fit =
    ap (λ (o : Option MachineFault). refusal_or o p.machine.role (first_refusal roles (machines_of own projections))) (fit 0 p refl)
    ∙ refused_of_own roles own projections (cc (e)) (λ place q at. fit (suc place) q at)
refused_of_own roles (Some m ∷ own) (p ∷ projections) e fit =
    ap (λ (later : Option MachineRefusal). refusal_or (first_fault m roles) m.role later)
    (refused_of_own roles own projections (cc (e)) (λ place q at. fit (suc place) q at))

pub first_is_own : (d : Document_data) (projections : List Projection_data) → DocumentIsReady d → IsWellFormed d.protocol → AreNumberedProjections d.protocol projections
    → first_refusal d.protocol.roles (machines_of d.machines projections) ≡ first_own_refusal d.protocol.roles d.machines
first_is_own d projections ready well h =
    refused_of_own d.protocol.roles d.machines projections (sizes d.machines d projections refl ready ready.a_name_each h) (projection_fits d.protocol projections well h)

-- no own machine has many states
small_own : (o : Option Machine_data) → ((m : Machine_data) → o ≡ Some m → length m.states ≤ MOST_STATES) → IfSome o (λ m. length m.states < 4294967296)
small_own None short = tt
small_own (Some m) short = (let few = short m refl in omega (arith, few))

pub all_small : (own : List (Option Machine_data)) → AreShort own → All (λ (o : Option Machine_data). IfSome o (λ m. length m.states < 4294967296)) own
all_small own short k o known = small_own (slice_index_or own k o) (λ m is. short k m (slice_get-get_or own k o known ∙ ap Some is))
