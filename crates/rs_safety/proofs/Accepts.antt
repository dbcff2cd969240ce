-- What a session that may be accepted gives to the test of its derivations.
use Rattle.std.proofs.Common.{◌≡◌, inl, inr, ℕ, ◌+◌, ◌<◌, ◌≤◌, List, All, Some, slice_get, length, sym, ap, ◌∙◌, subst, subst₂, arith, get_or}
use Rattle.std.proofs.lemmas.Bool.Decides.{eqb_tells}
use Rattle.std.proofs.lemmas.Option.{slice_get-get_or, slice_get_within, same_Some}
use Rattle.std.proofs.lemmas.List.{get_or_default}
use Rattle.rs_model.specs.Data.{Machine_data, Protocol_data}
use Rattle.rs_derive.specs.Data.{DNode_data, Derivation_data}
use Rattle.rs_derive.specs.Derivations.{IsDerivation, IsProper, Remembers}
use Rattle.rs_derive.specs.Faults.{first_fault}
use Rattle.rs_derive.specs.declared.faults.DeriveFault.{DeriveFault}
use Rattle.rs_core.specs.Safety.{IsSafe}
use Rattle.rs_project.specs.Data.{Projection_data}
use Rattle.rs_project.specs.Projection.{AreProjections}
use Rattle.rs_project.specs.Numbered.{AreNumberedProjections}
use Rattle.rs_project.proofs.Machines.{projection_machine}
use Rattle.rs_safety.specs.Accepting.{Accepted_data, FirstRefused, IsAcceptedSession}
use Rattle.rs_model.specs.declared.limits.TheConstants.{MOST_BOUND}
use Rattle.rs_safety.specs.Figures.{OwesFew}
use Rattle.rs_safety.proofs.Sessions.{no_machine, no_projection}
use Rattle.rs_safety.specs.Sessions.{AreDerivations, AreOneEach, IsSession}
use Rattle.rs_safety.proofs.Walks.{numbered}
use Rattle.rs_safety.proofs.Reordered.{safe}

-- before the place each derivation is one, and remembers
abbrev pub AreDerivedBefore : List Machine_data → List Projection_data → List Derivation_data → ℕ → Type 0
AreDerivedBefore machines projections derivations place =
    (p : ℕ) (m : Machine_data) (j : Projection_data) (d : Derivation_data) → p < place → slice_get machines p ≡ Some m
    → slice_get projections p ≡ Some j → slice_get derivations p ≡ Some d → IsDerivation d m j.machine × Remembers d m j.machine

-- projections with fixed numbers are projections
pub are_projections : (pr : Protocol_data) (pjs : List Projection_data) → AreNumberedProjections pr pjs → AreProjections pr pjs
are_projections pr pjs are = record { many = are.many; each = λ p j h. (are.each p j h).is_projection }

pub machine_proper : (pr : Protocol_data) (pjs : List Projection_data) (ms : List Machine_data) → IsSession pr pjs ms
    → (p : ℕ) (m : Machine_data) → slice_get ms p ≡ Some m → IsProper m
machine_proper pr pjs ms s p m h = (length ms, s.machines_fit.fits p m h)

pub projection_proper : (pr : Protocol_data) (pjs : List Projection_data) (ms : List Machine_data) → IsSession pr pjs ms
    → (p : ℕ) (j : Projection_data) → slice_get pjs p ≡ Some j → IsProper j.machine
projection_proper pr pjs ms s p j h =
    let w = slice_get_within pjs p j h in
    let many = s.projected.many in
    (pr.roles, projection_machine pr (numbered p) j s.well_formed (omega arith) (s.projected.each p j h).is_projection)

-- what stands at a place of a list is got there
pub gets : {A : Type 0} (xs : List A) (n : ℕ) (x : A) → n < length xs → x ≡ get_or xs n x → slice_get xs n ≡ Some x
gets xs n x h e = slice_get-get_or xs n x h ∙ ap (λ z. Some z) (sym e)

-- all three are there at a place of a machine
pub record Places (ms : List Machine_data) (pjs : List Projection_data) (ds : List Derivation_data) (place : ℕ) (m : Machine_data) (j : Projection_data) (d : Derivation_data) : Type 0 where
  pub runs : slice_get ms place ≡ Some m
  pub projects : slice_get pjs place ≡ Some j
  pub derives : slice_get ds place ≡ Some d

pub places : (pr : Protocol_data) (pjs : List Projection_data) (ms : List Machine_data) (ds : List Derivation_data) → IsSession pr pjs ms → AreOneEach (length ms) ds
    → (place : ℕ) (m : Machine_data) (j : Projection_data) (d : Derivation_data) → place < length ms → m ≡ get_or ms place m → j ≡ get_or pjs place j → d ≡ get_or ds place d
    → Places ms pjs ds place m j d
places pr pjs ms ds s o place m j d h em ej ed = record {
  runs = gets ms place m h em;
  projects = gets pjs place j (omega (arith, s.projected.many, s.a_machine_each)) ej;
  derives = gets ds place d (omega (arith, o.many)) ed;
}

-- one more place
pub derived_on : (ms : List Machine_data) (pjs : List Projection_data) (ds : List Derivation_data) (place : ℕ) (m : Machine_data) (j : Projection_data) (d : Derivation_data)
    → AreDerivedBefore ms pjs ds place → Places ms pjs ds place m j d
    → IsDerivation d m j.machine × Remembers d m j.machine → AreDerivedBefore ms pjs ds (place + 1)
derived_on ms pjs ds place m j d before at is p m' j' d' h gm gj gd = elim (eqb_tells p place) [
  | inl t ↦ (
      let e : p ≡ place = t.1 in
      let em : m ≡ m' = same_Some m m' (sym at.runs ∙ ap (λ z. slice_get ms z) (sym e) ∙ gm) in
      let ej : j ≡ j' = same_Some j j' (sym at.projects ∙ ap (λ z. slice_get pjs z) (sym e) ∙ gj) in
      let ed : d ≡ d' = same_Some d d' (sym at.derives ∙ ap (λ z. slice_get ds z) (sym e) ∙ gd) in
      let P : Machine_data → Type 0 = λ z. IsDerivation d z j.machine × Remembers d z j.machine in
      let Q : Projection_data → Derivation_data → Type 0 = λ y z. IsDerivation z m' y.machine × Remembers z m' y.machine in
      subst₂ Q ej ed (subst P em is))
  | inr t ↦ (let ne = t.1 in before p m' j' d' (below ne h) gm gj gd)
]
  where
    below : {p place : ℕ} → (p ≡ place → ⊥) → p < place + 1 → p < place
    below ne h = omega (arith, ne)

-- the first that is refused
pub first : (ms : List Machine_data) (pjs : List Projection_data) (ds : List Derivation_data) (place : ℕ) (m : Machine_data) (j : Projection_data) (d : Derivation_data) (cause : DeriveFault)
    → AreDerivedBefore ms pjs ds place → Places ms pjs ds place m j d → first_fault d m j.machine ≡ Some cause → FirstRefused ms pjs ds place cause
first ms pjs ds place m j d cause before at fault = record {
  machine = m;
  projection = j;
  derivation = d;
  runs = at.runs;
  projects = at.projects;
  derives = at.derives;
  fault = fault;
  earlier = before;
}

-- all places
pub all_derived : (ms : List Machine_data) (pjs : List Projection_data) (ds : List Derivation_data) (place : ℕ)
    → AreDerivedBefore ms pjs ds place → length ms ≤ place → length ds ≡ length ms → AreDerivations ms pjs ds
all_derived ms pjs ds place before all many = record {
  many = many;
  each = λ p m j d hm hj hd. (let w = slice_get_within ms p m hm in before p m j d (omega arith) hm hj hd);
}

-- a session with derivations is safe
pub accepted_safe : (pr : Protocol_data) (pjs : List Projection_data) (ms : List Machine_data) (ds : List Derivation_data) → IsSession pr pjs ms
    → AreDerivations ms pjs ds → IsSafe ms
accepted_safe pr pjs ms ds s of =
    safe pr pjs ms ds record { well_formed = s.well_formed; projected = are_projections pr pjs s.projected; a_machine_each = s.a_machine_each; machines_fit = s.machines_fit; derived = of }

-- P holds of each item
all_of : {A : Type 0} (P : A → Type 0) (xs : List A) → ((i : ℕ) (x : A) → slice_get xs i ≡ Some x → P x) → All P xs
all_of P xs h k d hk = h k (get_or xs k d) (slice_get-get_or xs k d hk)

-- no node of a derivation of an accepted session owes more than 64 acts
pub owes_few : (session : Accepted_data) → IsAcceptedSession session → (place : ℕ) (d : Derivation_data) → place < length session.derivations
    → d ≡ get_or session.derivations place d → (i : ℕ) (n : DNode_data) → slice_get d.nodes i ≡ Some n → length n.pending ≤ 64
owes_few session a place d h e i n at =
    let hd = gets session.derivations place d h e in
    let hm = slice_get-get_or session.machines place no_machine (omega (arith, a.is_session.a_machine_each, a.one_each.many)) in
    let hj = slice_get-get_or session.projections place no_projection (omega (arith, a.is_session.projected.many, a.one_each.many)) in
    let is = (a.derived.each place (get_or session.machines place no_machine) (get_or session.projections place no_projection) d hm hj hd).0 in
    let short = (is.each i n at).short in
    let bound = (a.one_each.bound place d hd).1 in
    omega (arith, short, bound)

-- no node of any derivation of an accepted session owes more than 64 acts
pub all_owe_few_shown : (session : Accepted_data) → IsAcceptedSession session → All OwesFew session.derivations
all_owe_few_shown session a k d h =
    let here = get_or_default session.derivations k d (get_or session.derivations k d) h in
    all_of (λ (n : DNode_data). length n.pending ≤ MOST_BOUND) (get_or session.derivations k d).nodes (λ i n at. owes_few session a k (get_or session.derivations k d) h here i n at)

-- a session with derivations is an accepted one
pub accepted_session : (pr : Protocol_data) (pjs : List Projection_data) (ms : List Machine_data) (ds : List Derivation_data) → IsSession pr pjs ms → AreOneEach pr.roles ds
    → AreDerivations ms pjs ds → IsAcceptedSession (record { protocol = pr; projections = pjs; derivations = ds; machines = ms })
accepted_session pr pjs ms ds s each of = record { is_session = s; one_each = each; derived = of; safe = accepted_safe pr pjs ms ds s of }
