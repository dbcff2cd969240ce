-- The session of a document, and the derivations that are found for it.
use Rattle.std.proofs.Common.{◌≡◌, ◌⊎◌, inl, inr, ℕ, zero, suc, ◌+◌, List, [], ◌∷◌, ◌++◌, All, length, Option, Some, None, slice_get, get_or, refl, sym, ap, ◌∙◌, subst, arith, length-append}
use Rattle.std.proofs.lemmas.Option.{slice_get-get_or, slice_get_within, same_Some}
use Rattle.rs_model.specs.Data.{Machine_data, Protocol_data}
use Rattle.rs_model.specs.Faults.{first_fault}
use Rattle.rs_model.specs.WellFormed.{IsWellFormedMachine}
use Rattle.rs_model.specs.declared.checks.MachineFault.{MachineFault}
use Rattle.rs_model.specs.declared.graph.Role.{Role}
use Rattle.rs_model.proofs.Faults as of_machines
use Rattle.rs_core.specs.Safety.{IsSafe}
use Rattle.rs_derive.specs.Data.{Derivation_data}
use Rattle.rs_derive.specs.declared.faults.DeriveFault.{DeriveFault}
use Rattle.rs_project.specs.Data.{Projection_data}
use Rattle.rs_project.specs.Numbered.{AreNumberedProjections}
use Rattle.rs_safety.specs.Accepting.{FirstRefused}
use Rattle.rs_safety.specs.Sessions.{AreDerivations, AreOneEach, IsSession}
use Rattle.rs_safety.specs.Figures.{OwesFew}
use Rattle.rs_safety.proofs.Accepts.{accepted_safe, accepted_session, all_owe_few_shown, machine_proper, projection_proper}
use Rattle.rs_safety.proofs.Sessions.{no_machine, no_projection}
use Rattle.rs_search.proofs.Accepted.{accepted, derives, remembers}
use Rattle.rs_search.proofs.Determined.{few_nodes}
use Rattle.rs_search.specs.Canonical.{IsCanonical, SearchRefuses}
use Rattle.rs_search.specs.declared.faults.SearchFault.{SearchFault}
use Rattle.rs_search.specs.declared.faults.SearchFault.TheVariants as search
use Rattle.rs_wellformed.specs.Faults as of_protocols
use Rattle.rs_wellformed.proofs.Faults as well_formed_protocols
use Rattle.rs_documents.specs.Data.{Document_data}
use Rattle.rs_answers.specs.Derivations.{AreCanonical, AreFirstCanonical, IsUnderivable}
use Rattle.rs_model.specs.Limits.{IsBound}
use Rattle.rs_documents.specs.Ready.{AreInPlace, DocumentIsReady}
use Rattle.rs_answers.specs.Sessions.{HasMachines, MachineRefusal, first_refusal, refusal_or}
use Rattle.rs_answers.specs.Machines.{machine_or, machines_of}
use Rattle.rs_documents.proofs.SpeltSessions.{IsSpeltSession}
use Rattle.rs_answers.proofs.EachRole.{last_or_before}

-- where no machine is refused each is well formed
later_fit : (o : Option MachineFault) (role : Role) (later : Option MachineRefusal) → refusal_or o role later ≡ None → (o ≡ None) × (later ≡ None)
later_fit None role later k = (refl, k)
later_fit (Some f) role later k = absurd (cc (k))

pub each_fits : (roles : ℕ) (ms : List Machine_data) → first_refusal roles ms ≡ None → (p : ℕ) (m : Machine_data) → slice_get ms p ≡ Some m → IsWellFormedMachine m roles
each_fits roles [] e p m h = absurd (cc (h))
each_fits roles (x ∷ ms) e zero m h =
    let same : x ≡ m = same_Some x m h in
    let P : Machine_data → Type 0 = λ z. IsWellFormedMachine z roles in
    subst P same (of_machines.no_fault x roles (later_fit (first_fault x roles) x.role (first_refusal roles ms) e).0)
each_fits roles (x ∷ ms) e (suc p) m h = each_fits roles ms (later_fit (first_fault x roles) x.role (first_refusal roles ms) e).1 p m h

-- the machine of a role is its own, or that of its projection
pub record IsChosen (own : List (Option Machine_data)) (ps : List Projection_data) (p : ℕ) (m : Machine_data) : Type 0 where
  pub own' : Option Machine_data
  pub projection : Projection_data
  pub has : slice_get own p ≡ Some own'
  pub projects : slice_get ps p ≡ Some projection
  pub machine_is : m ≡ machine_or own' projection

pub chosen : (own : List (Option Machine_data)) (ps : List Projection_data) (p : ℕ) (m : Machine_data) → slice_get (machines_of own ps) p ≡ Some m → IsChosen own ps p m
chosen [] ps p m h = absurd (cc (h))
chosen (x ∷ xs) [] p m h = absurd (cc (h))
chosen (x ∷ xs) (j ∷ js) zero m h = record { own' = x; projection = j; has = refl; projects = refl; machine_is = sym (same_Some (machine_or x j) m h) }
chosen (x ∷ xs) (j ∷ js) (suc p) m h = let c = chosen xs js p m h in record { own' = c.own'; projection = c.projection; has = c.has; projects = c.projects; machine_is = c.machine_is }

in_place : (d : Document_data) (ps : List Projection_data) → AreInPlace d.machines → AreNumberedProjections d.protocol ps → (p : ℕ) (m : Machine_data)
    → slice_get (machines_of d.machines ps) p ≡ Some m → m.role.0 ≡ p
in_place d ps placed h p m e = go (chosen d.machines ps p m e)
  where
    by : (o : Option Machine_data) (j : Projection_data) → slice_get d.machines p ≡ Some o → slice_get ps p ≡ Some j → m ≡ machine_or o j → m.role.0 ≡ p
    by None j has projects is = ap (λ (z : Machine_data). z.role.0) is ∙ ap (λ (z : Role). z.0) (h.each p j projects).is_projection.onto
    by (Some x) j has projects is = ap (λ (z : Machine_data). z.role.0) is ∙ placed p x has

    go : IsChosen d.machines ps p m → m.role.0 ≡ p
    go c = by c.own' c.projection c.has c.projects c.machine_is

chosen_many : (own : List (Option Machine_data)) (ps : List Projection_data) → length own ≡ length ps → length (machines_of own ps) ≡ length ps
chosen_many [] [] e = refl
chosen_many [] (j ∷ js) e = absurd (cc (e))
chosen_many (x ∷ xs) [] e = absurd (cc (e))
chosen_many (x ∷ xs) (j ∷ js) e = ap suc (chosen_many xs js (omega (arith, e)))

-- the session of a document
pub session_of : (d : Document_data) (ps : List Projection_data) (ms : List Machine_data) → IsSpeltSession d → of_protocols.first_fault d.protocol ≡ None → AreNumberedProjections d.protocol ps
    → ms ≡ machines_of d.machines ps → first_refusal d.protocol.roles ms ≡ None → IsSession d.protocol ps ms
session_of d ps ms spelt none h e fine =
    let size : length ms ≡ d.protocol.roles = ap length e ∙ chosen_many d.machines ps (spelt.one_each ∙ spelt.roles ∙ sym h.many) ∙ h.many in
    record {
      well_formed = well_formed_protocols.no_fault d.protocol none;
      roles = ((let t = spelt.two in let r = spelt.roles in omega (arith, t, r)), (let f = spelt.bounded in let r = spelt.roles in omega (arith, f, r)));
      projected = h;
      a_machine_each = size;
      machines_fit = record {
        role = λ p m at. (let P : List Machine_data → Type 0 = λ z. slice_get z p ≡ Some m in in_place d ps spelt.in_place h p m (subst P e at));
        fits = λ p m at. (let P : ℕ → Type 0 = λ z. IsWellFormedMachine m z in subst P (sym size) (each_fits d.protocol.roles ms fine p m at));
      };
    }

-- what is ready gives the same
pub ready_session : (d : Document_data) → DocumentIsReady d → IsSpeltSession d
ready_session d ready = record {
  two = ready.two;
  bounded = ready.roles;
  roles = ready.a_name_each;
  one_each = ready.one_each;
  in_place = ready.in_place;
  a_derivation_each = ready.derivations.one_each;
  derivations_in_place = ready.derivations.in_place;
}

-- the machines that it has are a session
pub session_has : (d : Document_data) (ps : List Projection_data) (ms : List Machine_data) → DocumentIsReady d → HasMachines d ps ms → IsSession d.protocol ps ms
session_has d ps ms ready h = session_of d ps ms (ready_session d ready) h.projections_are.well_formed h.projections_are.projected h.machines_are h.well_formed

-- no role is there yet
pub none_canonical : (bound : ℕ) (ms : List Machine_data) (ps : List Projection_data) → AreFirstCanonical bound ms ps 0 []
none_canonical bound ms ps = record { many = refl; each = λ p m j d hm hj hd. absurd (cc (hd)) }

-- one role more
pub next_canonical : (bound : ℕ) (ms : List Machine_data) (ps : List Projection_data) (count : ℕ) (ds : List Derivation_data) (m : Machine_data) (j : Projection_data) (d : Derivation_data)
    → AreFirstCanonical bound ms ps count ds
    → slice_get ms count ≡ Some m → slice_get ps count ≡ Some j → IsCanonical m j.machine bound d → AreFirstCanonical bound ms ps (count + 1) (ds ++ d ∷ [])
next_canonical bound ms ps count ds m j d h am aj found =
    let size = length-append ds (d ∷ []) in
    let many = h.many in
    record {
      many = omega (arith, size, many);
      each = λ p m' j' d' hm hj hd. elim (last_or_before ds d p d' hd) [
        | inl before ↦ h.each p m' j' d' hm hj before
        | inr last ↦ (
            let place : p ≡ count = last.0 ∙ many in
            let em : m ≡ m' = same_Some m m' (sym am ∙ ap (λ z. slice_get ms z) (sym place) ∙ hm) in
            let ej : j ≡ j' = same_Some j j' (sym aj ∙ ap (λ z. slice_get ps z) (sym place) ∙ hj) in
            let P : Machine_data → Type 0 = λ z. IsCanonical z j.machine bound d in
            let Q : Projection_data → Type 0 = λ z. IsCanonical m' z.machine bound d in
            let R : Derivation_data → Type 0 = λ z. IsCanonical m' j'.machine bound z in
            subst R last.1 (subst Q ej (subst P em found)))
      ];
    }

-- one role more, for which there is no derivation
pub underivable : (bound : ℕ) (ms : List Machine_data) (ps : List Projection_data) (role : Role) (ds : List Derivation_data) (m : Machine_data) (j : Projection_data) (fault : SearchFault)
    → AreFirstCanonical bound ms ps role.0 ds
    → slice_get ms role.0 ≡ Some m → slice_get ps role.0 ≡ Some j → SearchRefuses m j.machine bound fault → (fault ≡ search.NoMemory) ⊎ IsUnderivable bound ms ps role fault
underivable bound ms ps role ds m j search.NoMemory h am aj r = inl refl
underivable bound ms ps role ds m j (search.NotFound cut) h am aj r = inr record { machine = m; projection = j; runs = am; projects = aj; earlier = ds; derived = h; refused = r; cause = λ e. cc (e) }
underivable bound ms ps role ds m j (search.Forgets node) h am aj r = inr record { machine = m; projection = j; runs = am; projects = aj; earlier = ds; derived = h; refused = r; cause = λ e. cc (e) }
underivable bound ms ps role ds m j search.TooLarge h am aj r = inr record { machine = m; projection = j; runs = am; projects = aj; earlier = ds; derived = h; refused = r; cause = λ e. cc (e) }

-- what was found at a place
pub record FoundAt (bound : ℕ) (ms : List Machine_data) (ps : List Projection_data) (p : ℕ) (d : Derivation_data) : Type 0 where
  pub machine : Machine_data
  pub projection : Projection_data
  pub runs : slice_get ms p ≡ Some machine
  pub projects : slice_get ps p ≡ Some projection
  pub found : IsCanonical machine projection.machine bound d

pub found_at : (bound : ℕ) (pr : Protocol_data) (ps : List Projection_data) (ms : List Machine_data) (ds : List Derivation_data) → IsSession pr ps ms → AreCanonical bound ms ps ds
    → (p : ℕ) (d : Derivation_data) → slice_get ds p ≡ Some d → FoundAt bound ms ps p d
found_at bound pr ps ms ds s h p d at =
    let w = slice_get_within ds p d at in
    let hm = slice_get-get_or ms p no_machine (omega (arith, w, h.many)) in
    let hj = slice_get-get_or ps p no_projection (omega (arith, w, h.many, s.a_machine_each, s.projected.many)) in
    record { machine = get_or ms p no_machine; projection = get_or ps p no_projection; runs = hm; projects = hj; found = h.each p (get_or ms p no_machine) (get_or ps p no_projection) d hm hj at }

-- each of them is a derivation that remembers
pub derivations_are : (bound : ℕ) (pr : Protocol_data) (ps : List Projection_data) (ms : List Machine_data) (ds : List Derivation_data) → IsSession pr ps ms → AreCanonical bound ms ps ds
    → AreDerivations ms ps ds
derivations_are bound pr ps ms ds s h = record {
  many = h.many;
  each = λ p m j d hm hj hd. (
      let f = h.each p m j d hm hj hd in
      let ours = machine_proper pr ps ms s p m hm in
      let theirs = projection_proper pr ps ms s p j hj in
      (derives m j.machine bound d ours theirs f.canonical, remembers m j.machine bound d f));
}

-- what was found for the roles can be tested
pub one_each : (bound : ℕ) → IsBound bound → (pr : Protocol_data) (ps : List Projection_data) (ms : List Machine_data) (ds : List Derivation_data) → IsSession pr ps ms → AreCanonical bound ms ps ds
    → AreOneEach pr.roles ds
one_each bound within pr ps ms ds s h = record {
  many = h.many ∙ s.a_machine_each;
  role = λ p d at. (let f = found_at bound pr ps ms ds s h p d at in ap (λ (z : Role). z.0) f.found.canonical.role ∙ s.machines_fit.role p f.machine f.runs);
  bound = λ p d at. (let f = found_at bound pr ps ms ds s h p d at in let b = f.found.canonical.bound' in (let w = within.0 in omega (arith, b, w), let w = within.1 in omega (arith, b, w)));
  bounded = λ p d at. (let f = found_at bound pr ps ms ds s h p d at in let k = few_nodes f.machine f.projection.machine bound d f.found in omega (arith, k));
}

-- no node of what was found owes more than a derivation may be bounded by
pub all_owe_few : (bound : ℕ) → IsBound bound → (pr : Protocol_data) (ps : List Projection_data) (ms : List Machine_data) (ds : List Derivation_data) → IsSession pr ps ms → AreCanonical bound ms ps ds
    → All OwesFew ds
all_owe_few bound within pr ps ms ds s h =
    all_owe_few_shown (record { protocol = pr; projections = ps; derivations = ds; machines = ms })
    (accepted_session pr ps ms ds s (one_each bound within pr ps ms ds s h) (derivations_are bound pr ps ms ds s h))

-- what is accepted is safe
pub canonical_safe : (bound : ℕ) (pr : Protocol_data) (ps : List Projection_data) (ms : List Machine_data) (ds : List Derivation_data) → IsSession pr ps ms → AreCanonical bound ms ps ds → IsSafe ms
canonical_safe bound pr ps ms ds s h = accepted_safe pr ps ms ds s (derivations_are bound pr ps ms ds s h)

-- and is refused nowhere
pub never_refused : (bound : ℕ) (pr : Protocol_data) (ps : List Projection_data) (ms : List Machine_data) (ds : List Derivation_data) (place : ℕ) (cause : DeriveFault) → IsSession pr ps ms
    → AreCanonical bound ms ps ds → FirstRefused ms ps ds place cause → ⊥
never_refused bound pr ps ms ds place cause s h r =
    let f = h.each place r.machine r.projection r.derivation r.runs r.projects r.derives in
    let none = accepted r.machine r.projection.machine bound r.derivation (machine_proper pr ps ms s place r.machine r.runs) (projection_proper pr ps ms s place r.projection r.projects) f in
    let fault = r.fault in
    cc (none, fault)
