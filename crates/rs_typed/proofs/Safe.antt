-- The machines that the types of all endpoints of a session name are safe.
use Rattle.std.proofs.Common.{◌≡◌, ℕ, zero, suc, ◌<◌, List, [], ◌∷◌, length, slice_get, Some, refl, sym, ap, subst, ◌∙◌, arith}
use Rattle.std.proofs.lemmas.Option.{same_Some}
use Rattle.rs_core.specs.Safety.{IsSafe}
use Rattle.rs_core.proofs.Ends.{get_there}
use Rattle.rs_model.specs.Data.{Machine_data}
use Rattle.rs_rings.specs.Passes.{Rings_data}
use Rattle.rs_safety.specs.Accepting.{Accepted_data, IsAcceptedSession}
use Rattle.rs_session.specs.declared.stages.Stage.{Stage}
use Rattle.rs_typed.specs.Endpoints.{AreEndpoints}

same_lists : {A : Type 0} (xs ys : List A) → length xs ≡ length ys → ((i : ℕ) → i < length xs → slice_get xs i ≡ slice_get ys i) → xs ≡ ys
same_lists [] [] count same = refl
same_lists [] (y ∷ ys) count same = (let bad : ⊥ = omega arith in absurd bad)
same_lists (x ∷ xs) [] count same = (let bad : ⊥ = omega arith in absurd bad)
same_lists (x ∷ xs) (y ∷ ys) count same =
    let first : x ≡ y = same_Some x y (same zero (omega arith)) in
    ap (λ z. z ∷ xs) first ∙ ap (λ zs. y ∷ zs) (same_lists xs ys (omega arith) (λ i below. same (suc i) (omega arith)))

-- the machines are those of the session
pub machines_are : (session : Rings_data) (machines : List Machine_data) (stages : List Stage) → AreEndpoints session machines stages → machines ≡ session.machines
machines_are session machines stages are = same_lists machines session.machines are.a_machine_each (λ r below.
    let machine = get_there machines r below in
    let stage = get_there stages r (omega (arith, below, are.a_machine_each, are.an_endpoint_each)) in
    let is = are.each r machine.0 stage.0 machine.1 stage.1 in
    machine.1 ∙ sym is.1.runs ∙ ap (λ (n : ℕ). slice_get session.machines n) is.0)

pub typed_are_safe : (accepted : Accepted_data) (session : Rings_data) (machines : List Machine_data) (stages : List Stage) → IsAcceptedSession accepted → session.machines ≡ accepted.machines
    → AreEndpoints session machines stages → IsSafe machines
typed_are_safe accepted session machines stages is same are = subst IsSafe (sym (machines_are session machines stages are ∙ same)) is.safe
