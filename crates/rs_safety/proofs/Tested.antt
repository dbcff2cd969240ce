-- A small session with derivations, tested by computation: no test finds a fault.
use Rattle.std.proofs.Common.{◌≡◌, ℕ, zero, suc, ◌+◌, List, [], ◌∷◌, Some, None, slice_get, length, refl, ap, ◌∙◌, subst, subst₂, arith}
use Rattle.rs_model.specs.Data.{Machine_data}
use Rattle.rs_model.specs.declared.graph.Role.{Role}
use Rattle.rs_model.specs.Faults as of_machines
use Rattle.rs_model.specs.WellFormed.{IsWellFormedMachine}
use Rattle.rs_model.proofs.Faults as well_formed_machines
use Rattle.rs_project.specs.Data.{Projection_data}
use Rattle.rs_derive.specs.Data.{Derivation_data}
use Rattle.rs_derive.specs.Derivations.{IsDerivation, Remembers}
use Rattle.rs_derive.specs.Faults as of_derivations
use Rattle.rs_derive.proofs.Whole as whole_derivations
use Rattle.rs_safety.proofs.Walks.{numbered}
use Rattle.rs_core.specs.Choices.{AreWellFormed}
use Rattle.rs_safety.specs.Sessions.{AreDerivations}

-- the machines are those of the roles from p on, and none has a fault
abbrev pub MachinesPass : ℕ → ℕ → List Machine_data → Type 0
MachinesPass roles p [] = Unit {0}
MachinesPass roles p (m ∷ ms) = (m.role ≡ numbered p) × (of_machines.first_fault m roles ≡ None) × MachinesPass roles (suc p) ms

their_roles : (roles p : ℕ) (ms : List Machine_data) → MachinesPass roles p ms → (i : ℕ) (m : Machine_data)
    → slice_get ms i ≡ Some m → m.role ≡ numbered (p + i)
their_roles roles p [] h i m s = absurd (cc (s))
their_roles roles p (x ∷ xs) h zero m s =
    let e : x ≡ m = cc (s) in
    let k : p ≡ p + 0 = omega arith in
    let P : Machine_data → Type 0 = λ z. z.role ≡ numbered p in
    subst P e h.0 ∙ ap numbered k
their_roles roles p (x ∷ xs) h (suc i) m s = let k : suc p + i ≡ p + suc i = omega arith in their_roles roles (suc p) xs h.2 i m s ∙ ap numbered k

all_fit : (roles p : ℕ) (ms : List Machine_data) → MachinesPass roles p ms → (i : ℕ) (m : Machine_data)
    → slice_get ms i ≡ Some m → IsWellFormedMachine m roles
all_fit roles p [] h i m s = absurd (cc (s))
all_fit roles p (x ∷ xs) h zero m s =
    let e : x ≡ m = cc (s) in
    let P : Machine_data → Type 0 = λ z. IsWellFormedMachine z roles in
    subst P e (well_formed_machines.no_fault x roles h.1)
all_fit roles p (x ∷ xs) h (suc i) m s = all_fit roles (suc p) xs h.2 i m s

pub machines_are : (ms : List Machine_data) → MachinesPass (length ms) 0 ms → AreWellFormed ms
machines_are ms h = record {
  role = λ p m s. (let k : 0 + p ≡ p = omega arith in ap (λ (r : Role). r.0) (their_roles (length ms) 0 ms h p m s) ∙ k);
  fits = all_fit (length ms) 0 ms h;
}

-- no derivation has a fault
abbrev pub DerivationsPass : List Machine_data → List Projection_data → List Derivation_data → Type 0
DerivationsPass [] [] [] = Unit {0}
DerivationsPass (m ∷ ms) (j ∷ pjs) (d ∷ ds) = (of_derivations.first_fault d m j.machine ≡ None) × DerivationsPass ms pjs ds
DerivationsPass _ _ _ = ⊥

as_many : (ms : List Machine_data) (pjs : List Projection_data) (ds : List Derivation_data) → DerivationsPass ms pjs ds → length ds ≡ length ms
as_many [] [] [] h = refl
as_many (m ∷ ms) (j ∷ pjs) (d ∷ ds) h = ap suc (as_many ms pjs ds h.1)
as_many [] [] (d ∷ ds) h = absurd h
as_many [] (j ∷ pjs) ds h = absurd h
as_many (m ∷ ms) [] ds h = absurd h
as_many (m ∷ ms) (j ∷ pjs) [] h = absurd h

all_derive : (ms : List Machine_data) (pjs : List Projection_data) (ds : List Derivation_data) → DerivationsPass ms pjs ds
    → (i : ℕ) (m : Machine_data) (j : Projection_data) (d : Derivation_data) → slice_get ms i ≡ Some m
    → slice_get pjs i ≡ Some j → slice_get ds i ≡ Some d
    → IsDerivation d m j.machine × Remembers d m j.machine
all_derive (x ∷ ms) (k ∷ pjs) (e ∷ ds) h zero m j d hm hj hd =
    let em : x ≡ m = cc (hm) in
    let ej : k ≡ j = cc (hj) in
    let ed : e ≡ d = cc (hd) in
    let P : Machine_data → Type 0 = λ z. IsDerivation e z k.machine × Remembers e z k.machine in
    let Q : Projection_data → Derivation_data → Type 0 = λ y z. IsDerivation z m y.machine × Remembers z m y.machine in
    subst₂ Q ej ed (subst P em (whole_derivations.no_fault e x k.machine h.0))
all_derive (x ∷ ms) (k ∷ pjs) (e ∷ ds) h (suc i) m j d hm hj hd = all_derive ms pjs ds h.1 i m j d hm hj hd
all_derive [] pjs ds h i m j d hm hj hd = absurd (cc (hm))
all_derive (x ∷ ms) [] ds h i m j d hm hj hd = absurd (cc (hj))
all_derive (x ∷ ms) (k ∷ pjs) [] h i m j d hm hj hd = absurd (cc (hd))

pub derivations_are : (ms : List Machine_data) (pjs : List Projection_data) (ds : List Derivation_data)
    → DerivationsPass ms pjs ds → AreDerivations ms pjs ds
derivations_are ms pjs ds h = record { many = as_many ms pjs ds h; each = all_derive ms pjs ds h }
