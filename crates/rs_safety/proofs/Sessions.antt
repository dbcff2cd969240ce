-- Sessions of machines that are their projections are safe.
use Rattle.std.proofs.Common.{◌≡◌, ℕ, zero, suc, ◌<◌, List, [], ◌∷◌, map, Some, slice_get, length, refl, sym, ap, ◌∙◌, subst, arith, get_or}
use Rattle.std.proofs.lemmas.Option.{slice_get-get_or, slice_get_within}
use Rattle.rs_model.specs.Data.{Machine_data, Protocol_data}
use Rattle.rs_model.specs.WellFormed.{IsWellFormedMachine}
use Rattle.rs_model.specs.declared.graph.Role.{Role}
use Rattle.rs_wellformed.specs.WellFormed.{IsWellFormed}
use Rattle.rs_core.specs.Safety.{IsSafe}
use Rattle.rs_core.specs.Choices.{AreWellFormed}
use Rattle.rs_core.proofs.Stands.{peered}
use Rattle.rs_project.specs.Data.{Projection_data}
use Rattle.rs_project.specs.Projection.{AreProjections}
use Rattle.rs_safety.proofs.Walks.{numbered}
use Rattle.rs_project.proofs.Machines.{projection_machine}
use Rattle.rs_safety.proofs.Built.{safe_of_parts}
use Rattle.rs_safety.proofs.Equal.{equal}

pub no_machine : Machine_data
no_machine = record { role = numbered 0; states = []; start = 0 }

pub no_projection : Projection_data
no_projection = record { machine = no_machine; sets = [] }

get_map : (pjs : List Projection_data) (p : ℕ) (pj : Projection_data) → slice_get pjs p ≡ Some pj
    → slice_get (map (λ (z : Projection_data). z.machine) pjs) p ≡ Some pj.machine
get_map [] p pj h = absurd (cc (h))
get_map (x ∷ xs) zero pj h = let e : x ≡ pj = cc (h) in ap (λ (z : Projection_data). Some z.machine) e
get_map (x ∷ xs) (suc p) pj h = get_map xs p pj h

length_of_map : (pjs : List Projection_data) → length (map (λ (z : Projection_data). z.machine) pjs) ≡ length pjs
length_of_map [] = refl
length_of_map (x ∷ xs) = ap suc (length_of_map xs)

-- the projection onto each role is there
the_projection : (pr : Protocol_data) (pjs : List Projection_data) → AreProjections pr pjs → (p : ℕ) → p < pr.roles
    → slice_get pjs p ≡ Some (get_or pjs p no_projection)
the_projection pr pjs are p hp = slice_get-get_or pjs p no_projection (let h = are.many in omega arith)

machine_fits : (pr : Protocol_data) (pjs : List Projection_data) → IsWellFormed pr → AreProjections pr pjs → (p : ℕ) → p < pr.roles
    → IsWellFormedMachine (get_or pjs p no_projection).machine pr.roles
machine_fits pr pjs wf are p hp =
    projection_machine pr (numbered p) (get_or pjs p no_projection) wf hp (are.each p (get_or pjs p no_projection) (the_projection pr pjs are p hp))

all_roles : (pr : Protocol_data) (pjs : List Projection_data) → AreProjections pr pjs
    → length (map (λ (z : Projection_data). z.machine) pjs) ≡ pr.roles
all_roles pr pjs are = length_of_map pjs ∙ are.many

-- a machine of the session is that of its projection
same_machine : (pr : Protocol_data) (pjs : List Projection_data) → AreProjections pr pjs → (p : ℕ) (m : Machine_data)
    → slice_get (map (λ (z : Projection_data). z.machine) pjs) p ≡ Some m → (p < pr.roles) × ((get_or pjs p no_projection).machine ≡ m)
same_machine pr pjs are p m h =
    let w = slice_get_within (map (λ (z : Projection_data). z.machine) pjs) p m h in
    let all = all_roles pr pjs are in
    let hp : p < pr.roles = omega arith in
    let there = get_map pjs p (get_or pjs p no_projection) (the_projection pr pjs are p hp) in
    (hp, cc (there, h))

in_order : (pr : Protocol_data) (pjs : List Projection_data) → IsWellFormed pr → AreProjections pr pjs
    → AreWellFormed (map (λ (z : Projection_data). z.machine) pjs)
in_order pr pjs wf are = record {
  role = λ p m h.
      let same = same_machine pr pjs are p m h in
      let pj = get_or pjs p no_projection in
      let P : Machine_data → Type 0 = λ z. z.role.0 ≡ p in
      subst P same.1 (ap (λ (z : Role). z.0) (are.each p pj (the_projection pr pjs are p same.0)).onto);
  fits = λ p m h.
      let same = same_machine pr pjs are p m h in
      let P : Machine_data → Type 0 = λ z. IsWellFormedMachine z (length (map (λ (z : Projection_data). z.machine) pjs)) in
      let Q : ℕ → Type 0 = λ z. IsWellFormedMachine (get_or pjs p no_projection).machine z in
      subst P same.1 (subst Q (sym (all_roles pr pjs are)) (machine_fits pr pjs wf are p same.0));
}

projections_safe : (pr : Protocol_data) (pjs : List Projection_data) → IsWellFormed pr → AreProjections pr pjs
    → IsSafe (map (λ (z : Projection_data). z.machine) pjs)
projections_safe pr pjs wf are = safe_of_parts pr (map (λ (z : Projection_data). z.machine) pjs) 0 (peered (map (λ (z : Projection_data). z.machine) pjs) (in_order pr pjs wf are)) (λ f. record {
  fits = wf;
  roles = sym (all_roles pr pjs are);
  machine = λ p. (get_or pjs p no_projection).machine;
  stands = λ p hp. get_map pjs p (get_or pjs p no_projection) (the_projection pr pjs are p hp);
  projection = λ p. get_or pjs p no_projection;
  projected = λ p hp. are.each p (get_or pjs p no_projection) (the_projection pr pjs are p hp);
  follower = λ p hp. equal (get_or pjs p no_projection).machine pr.roles (f p) 0 (machine_fits pr pjs wf are p hp);
})

pub equal_safe : (pr : Protocol_data) (pjs : List Projection_data) (ms : List Machine_data) → IsWellFormed pr → AreProjections pr pjs
    → ms ≡ map (λ (z : Projection_data). z.machine) pjs → IsSafe ms
equal_safe pr pjs ms wf are same = subst IsSafe (sym same) (projections_safe pr pjs wf are)
