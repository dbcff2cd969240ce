-- A document while a role of it is improved.
use Rattle.std.proofs.Common.{◌≡◌, ◌⊎◌, inl, inr, ℕ, ◌<◌, List, length, Option, Some, None, Result, Ok, Err, slice_get, slice_set, sym, ap, ◌∙◌, subst, arith}
use Rattle.std.specs.Prelude.{IfOk}
use Rattle.std.proofs.lemmas.Option.{slice_get_within}
use Rattle.rs_derive.specs.Data.{Derivation_data}
use Rattle.rs_derive.specs.Derivations.{IsProper}
use Rattle.rs_documents.proofs.Parts.{set_size}
use Rattle.rs_documents.proofs.SpeltSessions.{IsSpeltSession}
use Rattle.rs_documents.specs.Canonical.{CanBeShown, IsCanonicalDocument}
use Rattle.rs_documents.specs.Data.{Document_data}
use Rattle.rs_documents.specs.Ready.{AreShort, DocumentIsReady}
use Rattle.rs_improve.specs.Data.{Improved_data}
use Rattle.rs_improve.specs.Improved.{IsImproved, RefusesToImprove}
use Rattle.rs_improve.specs.declared.improving.ImproveFault.TheVariants.{TooLarge}
use Rattle.rs_model.proofs.Lists.{item_at}
use Rattle.rs_model.specs.Data.{Machine_data}
use Rattle.rs_model.specs.declared.memory.NoMemory.{NoMemory}
use Rattle.rs_project.specs.Data.{Projection_data}
use Rattle.rs_text.proofs.Numbers.{place_below}
use Rattle.rs_text.specs.Names.{place_of}
use Rattle.rs_answers.specs.Data.{Answer_data}
use Rattle.rs_answers.specs.Improves.{Improves, IsImprovedSession, IsRefused, IsShown, improved_document, machine_if_swapped, with_own}
use Rattle.rs_answers.specs.Improving.{CanBeImproved, IsSessionWithout, TellsImproved}
use Rattle.rs_answers.specs.Refusals.{HasNoDerivations, refusal_answer}
use Rattle.rs_answers.specs.Sessions.{HasMachines}
use Rattle.rs_answers.specs.declared.derivations.DerivedSession.{DerivedSession}
use Rattle.rs_answers.specs.declared.refusals.Refusal.{Refusal}
use Rattle.rs_answers.specs.declared.refusals.Refusal.TheVariants as refusal
use Rattle.rs_answers.proofs.Answering.{made}
use Rattle.rs_answers.proofs.Derivings.{ready_session}
use Rattle.rs_answers.proofs.ImprovedSessions.{above_fits, improved_can_be_shown, in_place_with, runs_its_projection, set_again, set_as_it_is, set_places, shown_with}

-- ---- the document without the role's own machine

short_without : (machines : List (Option Machine_data)) (p : ℕ) → AreShort machines → AreShort (slice_set machines p None)
short_without machines p short k m e = elim (set_places machines p None k (Some m) e) [ inl here ↦ absurd (let clash = here.1 in cc clash) | inr other ↦ short k m other.1 ]

pub ready_without : (d : Document_data) (p : ℕ) → DocumentIsReady d → DocumentIsReady (with_own d p None)
ready_without d p ready = record {
  sound = ready.sound;
  two = ready.two;
  roles = ready.roles;
  a_name_each = ready.a_name_each;
  labels = ready.labels;
  one_each = set_size d.machines p None ∙ ready.one_each;
  short = short_without d.machines p ready.short;
  in_place = in_place_with d.machines p None ready.in_place (λ m e. absurd cc);
  nodes = ready.nodes;
  derivations = ready.derivations;
}

pub shown_without : (d : Document_data) (p : ℕ) → CanBeShown d → CanBeShown (with_own d p None)
shown_without d p shown = record {
  sound = shown.sound;
  shaped = shown.shaped;
  enough = shown.enough;
  machines = shown_with d.names d.machines p None shown.machines tt;
  derivations = shown.derivations;
}

pub place_ready : (role : List ℕ) (d : Document_data) (p : ℕ) → DocumentIsReady d → Some p ≡ place_of role d.names.roles → p < length d.machines
place_ready role d p ready known = let below = place_below d.names.roles role p (sym known) in let one = ready.one_each in omega (arith, below, one)

-- set to none twice, it is the document that was set once
without_again : (d : Document_data) (p : ℕ) (o : Option Machine_data) → with_own (with_own d p None) p o ≡ with_own d p o
without_again d p o = ap (λ (z : List (Option Machine_data)). record d { machines = z }) (set_again d.machines p None o)

-- where it is none, it stays
as_it_is : (d : Document_data) (p : ℕ) → slice_get d.machines p ≡ Some None → with_own d p None ≡ d
as_it_is d p none = ap (λ (z : List (Option Machine_data)). record d { machines = z }) (set_as_it_is d.machines p None none)

-- ---- what is answered

improved_shown : (role : List ℕ) (bound asked : ℕ) (d : Document_data) (p : ℕ) (ds : List Derivation_data) (a : Answer_data) → place_of role d.names.roles ≡ Some p
    → TellsImproved role bound asked (with_own d p None) p ds a → Improves role bound asked d a
improved_shown role bound asked d p ds a known t =
    let s = t.session in
    IsShown p known ds t.improved (record {
      projections = s.projections;
      machines = s.machines;
      has = subst (λ (z : Document_data). HasMachines z s.projections s.machines) (without_again d p None) s.has;
      canonical = s.canonical;
      projection = s.projection;
      projects = s.projects;
      is_improved = s.is_improved;
    })
    (record {
      shown = t.shows.shown;
      canonical = subst (λ (z : List (Option Machine_data)). IsCanonicalDocument (record (improved_document (with_own d p None) p ds t.improved) { machines = z }) t.shows.shown)
          (set_again d.machines p None (machine_if_swapped t.improved)) t.shows.canonical;
      text = t.shows.text;
      fine = t.shows.fine;
    })

pub told_improved : (role : List ℕ) (bound asked : ℕ) (d : Document_data) (p : ℕ) (ds : List Derivation_data) (r : Result Answer_data NoMemory) → Some p ≡ place_of role d.names.roles
    → IfOk r (TellsImproved role bound asked (with_own d p None) p ds) → IfOk r (Improves role bound asked d)
told_improved role bound asked d p ds r known told = made (TellsImproved role bound asked (with_own d p None) p ds) (Improves role bound asked d) r told
    (λ a t. improved_shown role bound asked d p ds a (sym known) t)

pub told_refused : (role : List ℕ) (bound asked : ℕ) (d : Document_data) (p : ℕ) (why : Refusal) (r : Result Answer_data NoMemory) → Some p ≡ place_of role d.names.roles
    → (why ≡ refusal.NoMemory) ⊎ HasNoDerivations bound (with_own d p None) why → IfOk r (λ a. a ≡ refusal_answer d.names why) → IfOk r (λ a. why ≡ refusal.NoMemory → ⊥)
    → IfOk r (Improves role bound asked d)
told_refused role bound asked d p why (Err e) known h is never = tt
told_refused role bound asked d p why (Ok m) known (inl memory) is never = absurd (never memory)
told_refused role bound asked d p why (Ok m) known (inr h) is never = IsRefused p (sym known) why h is

-- ---- the session without the role's own machine

module _ (bound : ℕ) (d : Document_data) (p : ℕ) (session : DerivedSession) (ready : DocumentIsReady d) (s : IsSessionWithout bound d p session) where
  abbrev ps : List Projection_data
  ps = session.projections.items

  spelt : IsSpeltSession d
  spelt = ready_session d ready

  pub role_has_a_place : p < length d.machines
  role_has_a_place = slice_get_within d.machines p None s.none

  has : HasMachines (with_own d p None) ps session.machines.items
  has = subst (λ (z : Document_data). HasMachines z ps session.machines.items) (sym (as_it_is d p s.none)) s.has

  pub role_has_a_projection : p < length ps
  role_has_a_projection =
      let place = role_has_a_place in
      let one = ready.one_each in
      let names = ready.a_name_each in
      let many = s.has.projections_are.projected.many in
      omega (arith, place, one, names, many)

  pub role_has_a_derivation : p < length session.derivations.items
  role_has_a_derivation =
      let j = item_at ps p role_has_a_projection in
      let runs = slice_get_within session.machines.items p j.0.machine (runs_its_projection bound d p ps session.machines.items session.derivations.items j.0 spelt role_has_a_place has s.canonical j.1) in
      let many = s.canonical.many in
      omega (arith, runs, many)

  module _ (j : Projection_data) (at : slice_get ps p ≡ Some j) where
    projection_is_proper : IsProper j.machine
    projection_is_proper = (d.protocol.roles, above_fits bound d p ps session.machines.items session.derivations.items j spelt role_has_a_place has s.canonical at)

    -- there aren't too many candidates: the derivation of the projection from itself was found
    not_too_large : RefusesToImprove j.machine bound TooLarge → ⊥
    not_too_large many =
        let runs = runs_its_projection bound d p ps session.machines.items session.derivations.items j spelt role_has_a_place has s.canonical at in
        let x = item_at session.derivations.items p role_has_a_derivation in
        (s.canonical.each p j.machine j x.0 runs at x.1).bounded many

    pub can_be_improved : CanBeImproved bound j
    can_be_improved = record { proper = projection_is_proper; few = not_too_large }

    pub is_improved_session : (asked : ℕ) (i : Improved_data) → IsImproved j.machine bound asked i → IsImprovedSession bound asked d p session.derivations.items i
    is_improved_session asked i improved =
        record { projections = ps; machines = session.machines.items; has = has; canonical = s.canonical; projection = j; projects = at; is_improved = improved }

    pub improvement_can_be_shown : (asked : ℕ) (i : Improved_data) → IsImproved j.machine bound asked i → CanBeShown d → CanBeShown (improved_document d p session.derivations.items i)
    improvement_can_be_shown asked i improved shown =
        improved_can_be_shown bound d p ps session.machines.items session.derivations.items j spelt role_has_a_place has s.canonical at asked i improved ready.labels shown s.within
