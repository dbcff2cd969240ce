-- What the document's own derivations show, a search within their bound finds, unless it gives up.
use Rattle.std.proofs.Common.{◌≡◌, inl, inr, ℕ, zero, suc, ◌≤◌, List, [], ◌∷◌, length, Option, Some, None, refl, sym, subst, ◌∙◌, arith, slice_get}
use Rattle.std.proofs.lemmas.Option.{same_Some}
use Rattle.rs_derive.proofs.Whole.{no_fault}
use Rattle.rs_derive.specs.Data.{Derivation_data}
use Rattle.rs_derive.specs.Derivations.{IsDerivation, Remembers}
use Rattle.rs_derive.specs.Faults.{first_fault}
use Rattle.rs_documents.proofs.SpeltSessions.{spelt_session}
use Rattle.rs_documents.specs.Data.{Document_data}
use Rattle.rs_documents.specs.Documents.{SpellsDocument}
use Rattle.rs_model.specs.Data.{Machine_data}
use Rattle.rs_model.specs.declared.graph.Role.{Role}
use Rattle.rs_project.specs.Data.{Projection_data}
use Rattle.rs_safety.proofs.Accepts.{machine_proper, projection_proper}
use Rattle.rs_search.proofs.Remembering.{followed_not_refused}
use Rattle.rs_search.specs.declared.faults.SearchFault.{SearchFault}
use Rattle.rs_search.specs.declared.faults.SearchFault.TheVariants as search
use Rattle.rs_answers.proofs.Derivings.{session_of}
use Rattle.rs_answers.proofs.Verified.{none_blamed, none_first}
use Rattle.rs_answers.specs.Derivations.{IsUnderivable}
use Rattle.rs_answers.specs.Sessions.{HasMachines}
use Rattle.rs_answers.specs.Verifying.{blame_of, first_blame}

-- where none is blamed each role has its own derivation, which remembers
record Shown (own : List (Option Derivation_data)) (p : ℕ) (m : Machine_data) (j : Projection_data) : Type 0 where
  pub derivation : Derivation_data
  pub present : slice_get own p ≡ Some (Some derivation)
  pub derives : IsDerivation derivation m j.machine
  pub remembers : Remembers derivation m j.machine

shown : (n : ℕ) (own : List (Option Derivation_data)) (ms : List Machine_data) (js : List Projection_data) → first_blame n own ms js ≡ None → length own ≡ length ms
    → (p : ℕ) (m : Machine_data) (j : Projection_data) → slice_get ms p ≡ Some m → slice_get js p ≡ Some j → Shown own p m j
shown n [] [] js e f p m j hm hj = absurd cc
shown n [] (y ∷ ms) js e f p m j hm hj = let bad : ⊥ = omega (arith, f) in absurd bad
shown n (x ∷ own) [] js e f p m j hm hj = absurd cc
shown n (x ∷ own) (y ∷ ms) [] e f p m j hm hj = absurd cc
shown n (None ∷ own) (y ∷ ms) (z ∷ js) e f p m j hm hj = absurd cc
shown n (Some x ∷ own) (y ∷ ms) (z ∷ js) e f zero m j hm hj =
    let none = none_blamed (first_fault x y z.machine) (none_first (blame_of (Some x) y z) (record { 0 = n }) (first_blame (suc n) own ms js) e).0 in
    let s = no_fault x y z.machine none in
    let P : Machine_data → Type 0 = λ v. Shown (Some x ∷ own) zero v j in
    let Q : Projection_data → Type 0 = λ v. Shown (Some x ∷ own) zero y v in
    subst P (same_Some y m hm) (subst Q (same_Some z j hj) (record { derivation = x; present = refl; derives = s.0; remembers = s.1 }))
shown n (Some x ∷ own) (y ∷ ms) (z ∷ js) e f (suc p) m j hm hj =
    let k = shown (suc n) own ms js (none_first (blame_of (Some x) y z) (record { 0 = n }) (first_blame (suc n) own ms js) e).1 (omega (arith, f)) p m j hm hj in
    record { derivation = k.derivation; present = k.present; derives = k.derives; remembers = k.remembers }

-- where none is blamed, the search within a bound that no derivation exceeds gives up, or finds one
pub verified_is_found : (bound : ℕ) (bytes : List ℕ) (d : Document_data) (ps : List Projection_data) (ms : List Machine_data) → SpellsDocument bytes d → HasMachines d ps ms
    → first_blame 0 d.derivations ms ps ≡ None
    → ((p : ℕ) (x : Derivation_data) → slice_get d.derivations p ≡ Some (Some x) → x.bound ≤ bound) → (role : Role) (fault : SearchFault) → IsUnderivable bound ms ps role fault
    → fault ≡ search.TooLarge
verified_is_found bound bytes d ps ms doc h none short role fault u =
    let spelt = spelt_session bytes d doc in
    let s = session_of d ps ms spelt h.projections_are.well_formed h.projections_are.projected h.machines_are h.well_formed in
    let size : length d.derivations ≡ length ms = spelt.a_derivation_each ∙ spelt.roles ∙ sym s.a_machine_each in
    let k = shown 0 d.derivations ms ps none size role.0 u.machine u.projection u.runs u.projects in
    elim (followed_not_refused u.machine u.projection.machine bound fault (machine_proper d.protocol ps ms s role.0 u.machine u.runs)
    (projection_proper d.protocol ps ms s role.0 u.projection u.projects)
    (record { derivation = k.derivation; is_derivation = k.derives; remembers = k.remembers; within = short role.0 k.derivation k.present }) u.refused) [
      | inl e ↦ e
      | inr e ↦ absurd (u.cause e)
    ]
