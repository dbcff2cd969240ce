-- The figures of a session's derivations, role by role: with the derivations and without them.
use Rattle.std.proofs.Common.{◌≡◌, ◌∙◌, ℕ, zero, suc, ◌+◌, ◌<◌, ◌≤◌, Bool, true, false, Result, if◌then◌else◌, List, [], ◌∷◌, ◌++◌, length, map, Option, Some, slice_get, get_or, refl, sym, ap, ap₂, subst, subst₂, arith}
use Rattle.std.specs.Prelude.{IfOk}
use Rattle.std.proofs.lemmas.List.{map-append}
use Rattle.std.proofs.lemmas.Option.{same_Some, slice_get-get_or}
use mir.Val.{bool_byte}
use Rattle.rs_model.specs.Data.{Machine_data, Protocol_data}
use Rattle.rs_model.specs.Limits.{IsBound}
use Rattle.rs_model.specs.declared.graph.Role.{Role}
use Rattle.rs_model.specs.declared.machines.State.{State}
use Rattle.rs_model.specs.declared.machines.State.TheVariants.{Done, Puts, Takes}
use Rattle.rs_model.specs.declared.memory.NoMemory.{NoMemory}
use Rattle.rs_derive.specs.Data.{Derivation_data}
use Rattle.rs_derive.specs.Derivations.{IsProper}
use Rattle.rs_graph.specs.Order.{Worked}
use Rattle.rs_project.specs.Data.{Projection_data}
use Rattle.rs_project.specs.Numbered.{IsNumberedProjection, nexts_behind}
use Rattle.rs_documents.specs.Data.{Document_data}
use Rattle.rs_safety.specs.Figures.{OwesFew, figures_of}
use Rattle.rs_safety.specs.Sessions.{IsSession}
use Rattle.rs_safety.specs.declared.rooms.Figures.{Figures}
use Rattle.rs_safety.proofs.Accepts.{gets, machine_proper, projection_proper}
use Rattle.rs_search.specs.Canonical.{IsCanonical}
use Rattle.rs_search.specs.Figures.{AreStatesInOrder, HasOwnFigures, states_behind}
use Rattle.rs_search.specs.declared.figures.OwnFigures.{OwnFigures}
use Rattle.rs_search.proofs.Accepted.{derives}
use Rattle.rs_answers.specs.Checks.{Checks}
use Rattle.rs_answers.specs.Data.{Answer_data}
use Rattle.rs_answers.specs.Figures.{AreFirstFigures, HasFigures, HasSessionFigures}
use Rattle.rs_answers.specs.Lines.{report_by}
use Rattle.rs_answers.specs.Machines.{machine_or, machines_of}
use Rattle.rs_answers.proofs.Answering.{accepted}
use Rattle.rs_answers.proofs.Derivings.{next_canonical, none_canonical}
use Rattle.rs_answers.proofs.Reporting.{report_by_shown}

-- ---- what stands at the place of a role

-- where both lists have a part, so have the machines
chosen_there : (own : List (Option Machine_data)) (ps : List Projection_data) (place : ℕ) (o : Option Machine_data) (p : Projection_data) → slice_get own place ≡ Some o → slice_get ps place ≡ Some p
    → slice_get (machines_of own ps) place ≡ Some (machine_or o p)
chosen_there [] ps place o p has projects = absurd (cc (has))
chosen_there (x ∷ own) [] place o p has projects = absurd (cc (projects))
chosen_there (x ∷ own) (y ∷ ps) zero o p has projects =
    ap (λ (z : Option Machine_data). Some (machine_or z y)) (same_Some x o has) ∙ ap (λ (z : Projection_data). Some (machine_or o z)) (same_Some y p projects)
chosen_there (x ∷ own) (y ∷ ps) (suc place) o p has projects = chosen_there own ps place o p has projects

-- there are no more machines than places for own ones
no_more_than_places : (own : List (Option Machine_data)) (ps : List Projection_data) → length (machines_of own ps) ≤ length own
no_more_than_places [] ps = omega arith
no_more_than_places (x ∷ own) [] = omega arith
no_more_than_places (x ∷ own) (y ∷ ps) = (let more = no_more_than_places own ps in omega (arith, more))

-- each role of a session has a place
pub place_of_role : (pr : Protocol_data) (own : List (Option Machine_data)) (ps : List Projection_data) → IsSession pr ps (machines_of own ps) → (place : ℕ) → place < length ps → place < length own
place_of_role pr own ps s place known =
    let more = no_more_than_places own ps in
    let each = s.a_machine_each in
    let many = s.projected.many in
    omega (arith, known, more, each, many)

-- as many machines as projections
pub a_machine_each : (pr : Protocol_data) (own : List (Option Machine_data)) (ps : List Projection_data) → IsSession pr ps (machines_of own ps) → length ps ≡ length (machines_of own ps)
a_machine_each pr own ps s = s.projected.many ∙ sym s.a_machine_each

-- ---- the states of a projection are in order

same_behind : (state : State) → nexts_behind state ≡ states_behind state
same_behind Done = refl
same_behind (Puts peer arms) = refl
same_behind (Takes peer arms) = refl

same_rows : (states : List State) → map nexts_behind states ≡ map states_behind states
same_rows [] = refl
same_rows (state ∷ states) = ap₂ (λ (row : List ℕ) (rows : List (List ℕ)). row ∷ rows) (same_behind state) (same_rows states)

states_in_order : (pr : Protocol_data) (role : Role) (p : Projection_data) → IsNumberedProjection pr role p → AreStatesInOrder p.machine
states_in_order pr role p h = record {
  start = h.is_projection.start;
  order = subst₂ (λ (rows : List (List ℕ)) (many : ℕ). Worked 0 1 rows many) (same_rows p.machine.states) (sym h.is_projection.all) h.order;
}

-- a role of a session: its own machine, where it has one, and its projection
pub record RoleAt (own : List (Option Machine_data)) (ps : List Projection_data) (place : ℕ) (o : Option Machine_data) (p : Projection_data) : Type 0 where
  pub runs : slice_get (machines_of own ps) place ≡ Some (machine_or o p)
  pub projects : slice_get ps place ≡ Some p
  pub ours : IsProper (machine_or o p)
  pub theirs : IsProper p.machine
  pub order : AreStatesInOrder p.machine

pub role_at : (pr : Protocol_data) (own : List (Option Machine_data)) (ps : List Projection_data) → IsSession pr ps (machines_of own ps) → (place : ℕ) → place < length ps
    → (o : Option Machine_data) (p : Projection_data) → o ≡ get_or own place o → p ≡ get_or ps place p → RoleAt own ps place o p
role_at pr own ps s place known o p eo ep =
    let has = gets own place o (place_of_role pr own ps s place known) eo in
    let projects = gets ps place p known ep in
    let runs = chosen_there own ps place o p has projects in
    record {
      runs = runs;
      projects = projects;
      ours = machine_proper pr ps (machines_of own ps) s place (machine_or o p) runs;
      theirs = projection_proper pr ps (machines_of own ps) s place p projects;
      order = states_in_order pr (record { 0 = place }) p (s.projected.each place p projects);
    }

-- ---- the figures of one derivation

-- no node of what was found owes more than a derivation may be bounded by
pub owes_few : (sub above : Machine_data) (bound : ℕ) (d : Derivation_data) → IsBound bound → IsProper sub → IsProper above → IsCanonical sub above bound d → OwesFew d
owes_few sub above bound d within ours theirs h k n known =
    let at = slice_get-get_or d.nodes k n known in
    let short = ((derives sub above bound d ours theirs h.canonical).each k (get_or d.nodes k n) at).short in
    let same = h.canonical.bound' in
    let most = within.1 in
    omega (arith, short, same, most)

byte_of : (b : Bool) → bool_byte b ≡ (if b then 1 else 0)
byte_of false = refl
byte_of true = refl

-- those that are told of a machine which is its projection
pub own_are : (m : Machine_data) (bound : ℕ) (f : OwnFigures) (nodes owed : ℕ) → nodes ≡ f.nodes → owed ≡ bool_byte f.owes → HasOwnFigures m bound f
    → HasFigures m m bound (record { nodes = nodes; owed = owed; rank = 0 })
own_are m bound f nodes owed en eo h = record {
  derivation = h.derivation;
  canonical = h.canonical;
  are =
      ap (λ (z : ℕ). record { nodes = z; owed = owed; rank = 0 }) (en ∙ sym h.nodes)
      ∙ ap (λ (z : ℕ). record { nodes = length h.derivation.nodes; owed = z; rank = 0 }) (eo ∙ byte_of f.owes ∙ sym h.owed)
      ∙ ap (λ (z : ℕ). record { nodes = length h.derivation.nodes; owed = (figures_of h.derivation).owed; rank = z }) (sym h.ranks);
}

-- ---- the figures of all roles

pub no_figures : (bound : ℕ) (ms : List Machine_data) (ps : List Projection_data) → AreFirstFigures bound ms ps 0 []
no_figures bound ms ps = record { derivations = []; canonical = none_canonical bound ms ps; are = refl }

-- one role more
pub next_figures : (bound : ℕ) (ms : List Machine_data) (ps : List Projection_data) (count : ℕ) (all : List Figures) (m : Machine_data) (p : Projection_data) (f : Figures)
    → AreFirstFigures bound ms ps count all → slice_get ms count ≡ Some m → slice_get ps count ≡ Some p → HasFigures m p.machine bound f
    → AreFirstFigures bound ms ps (count + 1) (all ++ f ∷ [])
next_figures bound ms ps count all m p f h runs projects has = record {
  derivations = h.derivations ++ has.derivation ∷ [];
  canonical = next_canonical bound ms ps count h.derivations m p has.derivation h.canonical runs projects has.canonical;
  are = ap₂ (λ (xs : List Figures) (x : Figures). xs ++ x ∷ []) h.are has.are ∙ sym (map-append figures_of h.derivations (has.derivation ∷ []));
}

-- ---- what is told of a document

-- the report from the figures is that of the derivations
pub told_by_figures : (bound : ℕ) (d : Document_data) (names : List (List ℕ)) (figures all : List Figures) (r : Result Answer_data NoMemory) → HasSessionFigures bound d figures
    → names ≡ d.names.roles → all ≡ figures → IfOk r (λ a. a ≡ report_by names all) → IfOk r (Checks bound false d)
told_by_figures bound d names figures all r h roles same is =
    let f = h.figures_are in
    accepted bound d h.projections h.machines f.derivations r h.has f.canonical
    (subst (λ (z : Answer_data). IfOk r (λ a. a ≡ z)) (ap₂ report_by roles (same ∙ f.are) ∙ report_by_shown d.names.roles f.derivations) is)
