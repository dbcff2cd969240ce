-- A document has a session and derivations, or a reason why it has none.
use Rattle.std.proofs.Common.{◌≡◌, ◌⊎◌, ℕ, zero, suc, ◌≤◌, ◌+◌, ◌++◌, ◌∷◌, [], List, length, Option, Some, None, refl, subst, inl, inr, arith, get_or, slice_get, ◌≢◌}
use Rattle.std.proofs.lemmas.Option.{slice_get-get_or}
use Rattle.rs_model.specs.Data.{Protocol_data, Machine_data}
use Rattle.rs_model.specs.declared.graph.Role.{Role}
use Rattle.rs_project.specs.Data.{Projection_data}
use Rattle.rs_project.specs.Numbered.{IsNumberedProjection, AreFirstProjections}
use Rattle.rs_project.specs.Refusals.{FirstRefusal}
use Rattle.rs_project.specs.declared.projecting.ProjFault.{ProjFault}
use Rattle.rs_project.proofs.Deciding.{decided}
use Rattle.rs_derive.specs.Data.{Derivation_data}
use Rattle.rs_safety.specs.Sessions.{IsSession}
use Rattle.rs_safety.proofs.Accepts.{machine_proper, projection_proper}
use Rattle.rs_safety.proofs.Sessions.{no_machine, no_projection}
use Rattle.rs_search.proofs.Deciding as searching
use Rattle.rs_search.specs.Canonical.{IsCanonical, SearchRefuses}
use Rattle.rs_search.specs.declared.faults.SearchFault.{SearchFault}
use Rattle.rs_search.specs.declared.faults.SearchFault.TheVariants as search
use Rattle.rs_answers.specs.Derivations.{AreCanonical, AreFirstCanonical, IsUnderivable}
use Rattle.rs_answers.proofs.Derivings.{next_canonical, none_canonical, session_of}
use Rattle.rs_documents.proofs.SpeltSessions.{IsSpeltSession, spelt_session}
use Rattle.rs_wellformed.specs.Faults.{first_fault}
use Rattle.rs_wellformed.specs.WellFormed.{IsWellFormed}
use Rattle.rs_wellformed.specs.declared.checks.WfFault.{WfFault}
use Rattle.rs_wellformed.proofs.Faults.{no_fault}
use Rattle.rs_documents.specs.Data.{Document_data}
use Rattle.rs_documents.specs.Documents.{SpellsDocument}
use Rattle.rs_answers.specs.Refusals.{HasNoDerivations, IsIllFormed, HasNoProjection, HasIllMachine, IsWithoutSession, HasNoDerivation}
use Rattle.rs_answers.specs.declared.refusals.Refusal.{Refusal}
use Rattle.rs_answers.specs.declared.refusals.Refusal.TheVariants as refusal
use Rattle.rs_answers.specs.Sessions.{HasMachines, HasProjections, IsUnprojectable, MachineRefusal, first_refusal, machines_of}
use Rattle.rs_answers.proofs.EachRole.{next_projection, no_projections}

pub data Decision (protocol : Protocol_data) (count : ℕ) : Type 0 where
  AllProject : (projections : List Projection_data) → AreFirstProjections protocol count projections → Decision protocol count
  OneDoesnt : (role : Role) (fault : ProjFault) → IsUnprojectable protocol role fault → Decision protocol count

pub first_ones : (protocol : Protocol_data) → IsWellFormed protocol → (count : ℕ) → count ≤ protocol.roles → Decision protocol count
first_ones protocol wf zero le = AllProject [] (no_projections protocol)
first_ones protocol wf (suc count) le = go (first_ones protocol wf count (omega arith)) (decided protocol (record { 0 = count }) wf)
  where
    go : Decision protocol count → ((projection : Projection_data) × IsNumberedProjection protocol (record { 0 = count }) projection)
        ⊎ ((fault : ProjFault) × FirstRefusal protocol (record { 0 = count }) fault) → Decision protocol (suc count)
    go (OneDoesnt role fault h) d = OneDoesnt role fault h
    go (AllProject projections h) (inl p) =
        let one : count + 1 ≡ suc count = omega arith in
        AllProject (projections ++ p.0 ∷ []) (subst (λ (n : ℕ). AreFirstProjections protocol n (projections ++ p.0 ∷ [])) one (next_projection protocol count projections p.0 h p.1))
    go (AllProject projections h) (inr f) = OneDoesnt (record { 0 = count }) f.0 (record { known = omega arith; earlier = projections; projected = h; refused = f.1 })

-- what the search finds for the first n roles
pub data Searched (bound : ℕ) (ms : List Machine_data) (ps : List Projection_data) (count : ℕ) : Type 0 where
  AllFound : (derivations : List Derivation_data) → AreFirstCanonical bound ms ps count derivations → Searched bound ms ps count
  OneIsnt : (role : Role) (fault : SearchFault) → IsUnderivable bound ms ps role fault → Searched bound ms ps count

found_next : (bound : ℕ) (ms : List Machine_data) (ps : List Projection_data) (count : ℕ) (m : Machine_data) (j : Projection_data) (ds : List Derivation_data) → slice_get ms count ≡ Some m
    → slice_get ps count ≡ Some j → AreFirstCanonical bound ms ps count ds
    → ((d : Derivation_data) × IsCanonical m j.machine bound d) ⊎ ((f : SearchFault) × (f ≢ search.NoMemory) × SearchRefuses m j.machine bound f) → Searched bound ms ps (suc count)
found_next bound ms ps count m j ds hm hj h (inl d) =
    let one : count + 1 ≡ suc count = omega arith in
    AllFound (ds ++ d.0 ∷ []) (subst (λ (n : ℕ). AreFirstCanonical bound ms ps n (ds ++ d.0 ∷ [])) one (next_canonical bound ms ps count ds m j d.0 h hm hj d.1))
found_next bound ms ps count m j ds hm hj h (inr f) =
    OneIsnt (record { 0 = count }) f.0 record { machine = m; projection = j; runs = hm; projects = hj; earlier = ds; derived = h; refused = f.2; cause = f.1 }

pub found_first : (bound : ℕ) (pr : Protocol_data) (ps : List Projection_data) (ms : List Machine_data) → IsSession pr ps ms → (count : ℕ) → count ≤ length ms → Searched bound ms ps count
found_first bound pr ps ms s zero le = AllFound [] (none_canonical bound ms ps)
found_first bound pr ps ms s (suc count) le =
    let m = get_or ms count no_machine in
    let j = get_or ps count no_projection in
    let hm : slice_get ms count ≡ Some m = slice_get-get_or ms count no_machine (omega (arith, le)) in
    let hj : slice_get ps count ≡ Some j = slice_get-get_or ps count no_projection (omega (arith, le, s.a_machine_each, s.projected.many)) in
    go m j hm hj (found_first bound pr ps ms s count (omega (arith, le)))
  where
    go : (m : Machine_data) (j : Projection_data) → slice_get ms count ≡ Some m → slice_get ps count ≡ Some j → Searched bound ms ps count → Searched bound ms ps (suc count)
    go m j hm hj (OneIsnt role fault u) = OneIsnt role fault u
    go m j hm hj (AllFound ds h) = found_next bound ms ps count m j ds hm hj h (searching.decided m j.machine bound (machine_proper pr ps ms s count m hm) (projection_proper pr ps ms s count j hj))

-- the session of a document and its derivations, or why there are none
pub data Prepared (bound : ℕ) (d : Document_data) : Type 0 where
  NotSo : (why : Refusal) → HasNoDerivations bound d why → Prepared bound d
  Derived : (projections : List Projection_data) (machines : List Machine_data) (derivations : List Derivation_data) → HasMachines d projections machines
      → AreCanonical bound machines projections derivations → Prepared bound d

searched : (bound : ℕ) (d : Document_data) (projections : List Projection_data) (machines : List Machine_data) → HasMachines d projections machines
    → Searched bound machines projections (length machines) → Prepared bound d
searched bound d projections machines h (AllFound derivations found) = Derived projections machines derivations h found
searched bound d projections machines h (OneIsnt role fault u) = NotSo (refusal.Underivable (record { role = role; fault = fault })) (HasNoDerivation projections machines h role fault u)

of_machines_of : (bound : ℕ) (d : Document_data) (projections : List Projection_data) → IsSpeltSession d → HasProjections d projections → (o : Option MachineRefusal)
    → first_refusal d.protocol.roles (machines_of d.machines projections) ≡ o → Prepared bound d
of_machines_of bound d projections spelt h (Some r) e = NotSo (refusal.IllMachine r.role r.fault) (IsWithoutSession _ (HasIllMachine projections h r e))
of_machines_of bound d projections spelt h None e =
    let machines = machines_of d.machines projections in
    let has : HasMachines d projections machines = record { projections_are = h; machines_are = refl; well_formed = e } in
    let session = session_of d projections machines spelt h.well_formed h.projected refl e in
    searched bound d projections machines has (found_first bound d.protocol projections machines session (length machines) (omega arith))

prepared_by : (bound : ℕ) (d : Document_data) → IsSpeltSession d → first_fault d.protocol ≡ None → Decision d.protocol d.protocol.roles → Prepared bound d
prepared_by bound d spelt none (OneDoesnt role fault h) = NotSo (refusal.Unprojectable fault) (IsWithoutSession _ (HasNoProjection none role fault h))
prepared_by bound d spelt none (AllProject projections h) =
    of_machines_of bound d projections spelt (record { well_formed = none; projected = h }) (first_refusal d.protocol.roles (machines_of d.machines projections)) refl

pub prepared_session : (bound : ℕ) (d : Document_data) → IsSpeltSession d → (o : Option WfFault) → first_fault d.protocol ≡ o → Prepared bound d
prepared_session bound d spelt (Some f) e = NotSo (refusal.IllFormed f) (IsWithoutSession _ (IsIllFormed f e))
prepared_session bound d spelt None e = prepared_by bound d spelt e (first_ones d.protocol (no_fault d.protocol e) d.protocol.roles (omega arith))

-- what a text spells is such a document
pub prepared : (bound : ℕ) (bytes : List ℕ) (d : Document_data) → SpellsDocument bytes d → (o : Option WfFault) → first_fault d.protocol ≡ o → Prepared bound d
prepared bound bytes d doc o e = prepared_session bound d (spelt_session bytes d doc) o e
