-- Whether the search accepts the machine of a role, and by which derivation.
use Rattle.std.proofs.Common.{◌≡◌, ◌≢◌, ◌⊎◌, ◌<◌, ℕ, List, Option, Some, None, Result, Ok, Err, slice_get, refl, sym, ap, ◌∙◌, inl, inr, subst}
use Rattle.std.specs.Prelude.{IfOk, OnOk}
use Rattle.rs_model.specs.Data.{Machine_data, Names_data, Protocol_data}
use Rattle.rs_model.specs.Faults as of_machines
use Rattle.rs_model.specs.declared.checks.MachineFault.{MachineFault}
use Rattle.rs_model.specs.declared.limits.TheConstants.{DEFAULT_BOUND}
use Rattle.rs_model.specs.declared.memory.NoMemory.{NoMemory}
use Rattle.rs_project.specs.Data.{Projection_data}
use Rattle.rs_project.specs.Numbered.{AreNumberedProjections}
use Rattle.rs_project.specs.declared.projecting.ProjFault.{ProjFault}
use Rattle.rs_project.specs.declared.projecting.ProjFault.TheVariants as proj
use Rattle.rs_project.proofs.Machines.{projection_machine}
use Rattle.rs_derive.specs.Data.{Derivation_data}
use Rattle.rs_derive.specs.Derivations.{IsProper}
use Rattle.rs_search.specs.Canonical.{SearchRefuses}
use Rattle.rs_search.specs.declared.faults.SearchFault.{SearchFault}
use Rattle.rs_search.specs.declared.faults.SearchFault.TheVariants as search
use Rattle.rs_search.proofs.Determined.{not_both_ways, one_answer}
use Rattle.rs_wellformed.proofs.Faults.{no_fault}
use Rattle.rs_wellformed.specs.Faults.{first_fault}
use Rattle.rs_wellformed.specs.declared.checks.WfFault.{WfFault}
use Rattle.rs_documents.specs.Data.{Document_data}
use Rattle.rs_answers.specs.Data.{Answer_data}
use Rattle.rs_answers.specs.Sessions.{Refuses}
use Rattle.rs_answers.specs.declared.verdicts.Verdict.TheVariants.{Fine}
use Rattle.rs_answers.proofs.OneReason.{not_unprojectable, one_projection_list}
use Rattle.rs_draw.specs.Draws.{drawn_machine}
use Rattle.rs_draw.specs.PutsOff.{DrawsBeside, DrawsOwn, Finds, HasNone, HasProjection, IsComparable, own_picture}

pub same_projection : (ps qs : List Projection_data) (p q : Projection_data) (place : ℕ) → ps ≡ qs → slice_get ps place ≡ Some p → slice_get qs place ≡ Some q → p ≡ q
same_projection ps qs p q place same e f = let is : Some p ≡ Some q = sym e ∙ ap (λ z. slice_get z place) same ∙ f in cc

-- ---- what isn't compared with a projection is drawn alone

abbrev pub IsAlone : Document_data → ℕ → Machine_data → Type 0
IsAlone d place machine = (projection : Projection_data) → IsComparable d place machine projection → ⊥

pub ill_protocol : (d : Document_data) (place : ℕ) (machine : Machine_data) (f : WfFault) → first_fault d.protocol ≡ Some f → IsAlone d place machine
ill_protocol d place machine f e projection h = let none = h.projects.well_formed in absurd cc

pub ill_machine : (d : Document_data) (place : ℕ) (machine : Machine_data) (f : MachineFault) → of_machines.first_fault machine d.protocol.roles ≡ Some f → IsAlone d place machine
ill_machine d place machine f e projection h = let none = h.well_formed in absurd cc

pub unprojected : (d : Document_data) (place : ℕ) (machine : Machine_data) (f : ProjFault) → Refuses d.protocol f → IsAlone d place machine
unprojected d place machine f refuses projection h = not_unprojectable d h.projections refuses.0 f h.projects refuses.1

pub drawn_alone : (d : Document_data) (place : ℕ) (machine : Machine_data) (r : Result Answer_data NoMemory) → IsAlone d place machine → IfOk r (λ a. a ≡ drawn_machine d.names machine)
    → IfOk r (DrawsOwn d place machine)
drawn_alone d place machine (Err e) alone is = tt
drawn_alone d place machine (Ok a) alone is = HasNone alone is

pub drawn_unprojected : (d : Document_data) (place : ℕ) (machine : Machine_data) (f : ProjFault) (r : Result Answer_data NoMemory) → (f ≡ proj.NoMemory) ⊎ Refuses d.protocol f
    → IfOk r (λ a. a ≡ drawn_machine d.names machine) → OnOk r (f ≢ proj.NoMemory) → IfOk r (DrawsOwn d place machine)
drawn_unprojected d place machine f (Err e) h is cause = tt
drawn_unprojected d place machine f (Ok a) (inl memory) is cause = absurd (cause memory)
drawn_unprojected d place machine f (Ok a) (inr refuses) is cause = HasNone (unprojected d place machine f refuses) is

-- ---- what the search finds

pub not_found : (sub above : Machine_data) (f : SearchFault) → f ≢ search.NoMemory → SearchRefuses sub above DEFAULT_BOUND f → Finds sub above None
not_found sub above f cause refuses derivation h = cause (not_both_ways sub above DEFAULT_BOUND derivation f h refuses)

pub none_found : (sub above : Machine_data) (f : SearchFault) (r : Result (Option Derivation_data) NoMemory) → SearchRefuses sub above DEFAULT_BOUND f → IfOk r (λ o. o ≡ None)
    → OnOk r (f ≢ search.NoMemory) → IfOk r (Finds sub above)
none_found sub above f (Err e) refuses is cause = tt
none_found sub above f (Ok o) refuses is cause = subst (Finds sub above) (sym is) (not_found sub above f cause refuses)

-- ---- what is compared is drawn beside its projection

pub comparable : (d : Document_data) (place : ℕ) (machine : Machine_data) (ps : List Projection_data) (p : Projection_data) → first_fault d.protocol ≡ None → AreNumberedProjections d.protocol ps
    → slice_get ps place ≡ Some p → of_machines.first_fault machine d.protocol.roles ≡ None → IsComparable d place machine p
comparable d place machine ps p none all there well = record { projections = ps; projects = record { well_formed = none; projected = all }; stands = there; well_formed = well }

pub is_proper : (pr : Protocol_data) (place : ℕ) (above : Machine_data) (ps : List Projection_data) (p : Projection_data) → first_fault pr ≡ None → AreNumberedProjections pr ps
    → slice_get ps place ≡ Some p → above ≡ p.machine → place < pr.roles → IsProper above
is_proper pr place above ps p none all there same low =
    subst IsProper (sym same) (pr.roles, projection_machine pr (record { 0 = place }) p (no_fault pr none) low (all.each place p there).is_projection)

pub drawn_beside : (d : Document_data) (place : ℕ) (machine above : Machine_data) (ps : List Projection_data) (p : Projection_data) (r : Result Answer_data NoMemory) → first_fault d.protocol ≡ None
    → AreNumberedProjections d.protocol ps → slice_get ps place ≡ Some p → above ≡ p.machine → of_machines.first_fault machine d.protocol.roles ≡ None
    → IfOk r (DrawsBeside d.names machine above) → IfOk r (DrawsOwn d place machine)
drawn_beside d place machine above ps p (Err e) none all there same well h = tt
drawn_beside d place machine above ps p (Ok a) none all there same well h =
    HasProjection p (comparable d place machine ps p none all there well) (subst (λ (z : Machine_data). DrawsBeside d.names machine z a) same h)

-- ---- there is one picture at most

one_found : (sub above : Machine_data) (o u : Option Derivation_data) → Finds sub above o → Finds sub above u → o ≡ u
one_found sub above (Some x) (Some y) h k = ap Some (one_answer sub above DEFAULT_BOUND x y h k)
one_found sub above (Some x) None h k = absurd (k x h)
one_found sub above None (Some y) h k = absurd (h y k)
one_found sub above None None h k = refl

pub one_beside : (names : Names_data) (sub above : Machine_data) (a b : Answer_data) → DrawsBeside names sub above a → DrawsBeside names sub above b → a ≡ b
one_beside names sub above a b x y =
    let answer : Option Derivation_data → Answer_data = λ o. record { text = own_picture names sub above o; verdict = Fine } in
    x.drawn ∙ ap answer (one_found sub above x.derivation y.derivation x.finds y.finds) ∙ sym y.drawn

pub one_own : (d : Document_data) (place : ℕ) (machine : Machine_data) (a b : Answer_data) → DrawsOwn d place machine a → DrawsOwn d place machine b → a ≡ b
one_own d place machine a b (HasProjection p h x) (HasProjection q k y) =
    let same : p ≡ q = same_projection h.projections k.projections p q place (one_projection_list d h.projections k.projections h.projects k.projects) h.stands k.stands in
    one_beside d.names machine q.machine a b (subst (λ (z : Projection_data). DrawsBeside d.names machine z.machine a) same x) y
one_own d place machine a b (HasProjection p h x) (HasNone alone y) = absurd (alone p h)
one_own d place machine a b (HasNone alone x) (HasProjection q k y) = absurd (alone q k)
one_own d place machine a b (HasNone alone x) (HasNone other y) = x ∙ sym y
