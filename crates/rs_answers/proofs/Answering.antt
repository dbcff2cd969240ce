-- What an answer that was made says of its document.
use Rattle.std.proofs.Common.{◌≡◌, ℕ, ◌⊎◌, List, Bool, true, false, Option, Some, None, Result, Ok, Err, refl, sym, ap, ap₂, ◌∙◌, subst, inl, inr}
use Rattle.std.specs.Prelude.{IfOk, IfErr, IsErrAnd}
use Rattle.rs_model.specs.Data.{Machine_data}
use Rattle.rs_model.specs.declared.checks.MachineFault.{MachineFault}
use Rattle.rs_model.specs.declared.graph.Role.{Role}
use Rattle.rs_model.specs.declared.memory.NoMemory.{NoMemory}
use Rattle.rs_project.specs.Data.{Projection_data}
use Rattle.rs_project.specs.Numbered.{AreNumberedProjections}
use Rattle.rs_project.specs.declared.projecting.ProjFault.{ProjFault}
use Rattle.rs_project.specs.declared.projecting.ProjFault.TheVariants as proj
use Rattle.rs_derive.specs.Data.{Derivation_data}
use Rattle.rs_search.specs.declared.faults.SearchFault.{SearchFault}
use Rattle.rs_search.specs.declared.faults.SearchFault.TheVariants as search
use Rattle.rs_answers.specs.Derivations.{AreCanonical, IsUnderivable}
use Rattle.rs_wellformed.proofs.Faults.{no_fault}
use Rattle.rs_wellformed.specs.Faults.{first_fault}
use Rattle.rs_wellformed.specs.declared.checks.WfFault.{WfFault}
use Rattle.rs_answers.specs.declared.verdicts.Verdict.TheVariants as verdict
use Rattle.rs_answers.specs.Checks as checks
use Rattle.rs_answers.specs.Checks.{Checks, with_derivations}
use Rattle.rs_documents.specs.Data.{Document_data}
use Rattle.rs_documents.specs.Ready.{DocumentIsReady}
use Rattle.rs_answers.specs.Data.{Answer_data}
use Rattle.rs_answers.specs.OwnMachines.{first_own_refusal}
use Rattle.rs_answers.specs.RefusalTexts.{wf_answer, proj_answer}
use Rattle.rs_answers.specs.Refusals.{HasNoDerivations, HasNoSession, IsIllFormed, HasNoProjection, HasIllMachine, IsWithoutSession, HasNoDerivation, of_projecting, of_searching, refusal_answer}
use Rattle.rs_answers.specs.declared.derivations.Underivable.{Underivable}
use Rattle.rs_answers.specs.declared.refusals.Refusal.{Refusal}
use Rattle.rs_answers.specs.declared.refusals.Refusal.TheVariants as refusal
use Rattle.rs_answers.specs.Report.{report}
use Rattle.rs_answers.specs.Sessions.{HasMachines, Refuses, first_refusal, machines_of}
use Rattle.rs_answers.specs.Shown.{Shows}
use Rattle.rs_answers.specs.Tables as tables
use Rattle.rs_answers.specs.Tables.{Projects}
use Rattle.rs_answers.proofs.EachRole.{first_is_own}

-- an answer that was made is the one that is meant
meant : (P : Answer_data → Type 0) (r : Result Answer_data NoMemory) (a : Answer_data) → IfOk r (λ m. m ≡ a) → ((m : Answer_data) → m ≡ a → P m) → IfOk r P
meant P (Ok m) a is h = h m is
meant P (Err e) a is h = tt

-- what holds of each answer holds of the one that was made
pub made : (P Q : Answer_data → Type 0) (r : Result Answer_data NoMemory) → IfOk r P → ((m : Answer_data) → P m → Q m) → IfOk r Q
made P Q (Ok m) p h = h m p
made P Q (Err e) p h = tt

-- the document is refused
pub refused : (bound : ℕ) (asked : Bool) (d : Document_data) (why : Refusal) (r : Result Answer_data NoMemory) → (why ≡ refusal.NoMemory) ⊎ HasNoDerivations bound d why
    → IfOk r (λ a. a ≡ refusal_answer d.names why)
    → IfOk r (λ a. why ≡ refusal.NoMemory → ⊥) → IfOk r (Checks bound asked d)
refused bound asked d why (Err e) h is never = tt
refused bound asked d why (Ok m) (inl memory) is never = absurd (never memory)
refused bound asked d why (Ok m) (inr h) is never = checks.IsRefused why h is

pub accepted : (bound : ℕ) (d : Document_data) (ps : List Projection_data) (ms : List Machine_data) (ds : List Derivation_data) (r : Result Answer_data NoMemory) → HasMachines d ps ms
    → AreCanonical bound ms ps ds
    → IfOk r (λ a. a ≡ report d.names.roles ds) → IfOk r (Checks bound false d)
accepted bound d ps ms ds r h found is = meant (Checks bound false d) r (report d.names.roles ds) is (λ m x. checks.IsAccepted ps ms ds h found x)

-- the session is accepted, and its derivations are shown
pub shown : (bound : ℕ) (d : Document_data) (ps : List Projection_data) (ms : List Machine_data) (ds : List Derivation_data) (r : Result Answer_data NoMemory) → HasMachines d ps ms
    → AreCanonical bound ms ps ds
    → IfOk r (Shows (with_derivations d ds)) → IfOk r (Checks bound true d)
shown bound d ps ms ds r h found is = made (Shows (with_derivations d ds)) (Checks bound true d) r is (λ m x. checks.IsAccepted ps ms ds h found x)

-- why there is no session, or no derivation
pub no_projection : (d : Document_data) (f : ProjFault) → first_fault d.protocol ≡ None → (f ≡ proj.NoMemory) ⊎ Refuses d.protocol f
    → (of_projecting f ≡ refusal.NoMemory) ⊎ HasNoSession d (of_projecting f)
no_projection d proj.NoMemory none why = inl refl
no_projection d (proj.Unmergeable role a b) none (inl memory) = absurd cc
no_projection d (proj.Unmergeable role a b) none (inr u) = inr (HasNoProjection none u.0 (proj.Unmergeable role a b) u.1)
no_projection d (proj.Unreached role node) none (inl memory) = absurd cc
no_projection d (proj.Unreached role node) none (inr u) = inr (HasNoProjection none u.0 (proj.Unreached role node) u.1)
no_projection d (proj.TooManyStates role) none (inl memory) = absurd cc
no_projection d (proj.TooManyStates role) none (inr u) = inr (HasNoProjection none u.0 (proj.TooManyStates role) u.1)

pub ill_machine : (d : Document_data) (ps : List Projection_data) (ms : List Machine_data) (role : Role) (f : MachineFault) → first_fault d.protocol ≡ None → AreNumberedProjections d.protocol ps
    → ms ≡ machines_of d.machines ps → first_refusal d.protocol.roles ms ≡ Some (record { role = role; fault = f }) → HasNoSession d (refusal.IllMachine role f)
ill_machine d ps ms role f none h e s =
    HasIllMachine ps (record { well_formed = none; projected = h }) (record { role = role; fault = f }) (subst (λ z. first_refusal d.protocol.roles z ≡ Some (record { role = role; fault = f })) e s)

pub has_machines : (d : Document_data) (ps : List Projection_data) (ms : List Machine_data) → first_fault d.protocol ≡ None → AreNumberedProjections d.protocol ps → ms ≡ machines_of d.machines ps
    → first_refusal d.protocol.roles ms ≡ None → HasMachines d ps ms
has_machines d ps ms none h e s = record { projections_are = record { well_formed = none; projected = h }; machines_are = e; well_formed = s }

-- where the protocol has projections, its own machines tell whether it has a session
pub ill_own : (d : Document_data) (ps : List Projection_data) (own : List (Option Machine_data)) (roles : ℕ) (role : Role) (f : MachineFault) → DocumentIsReady d → first_fault d.protocol ≡ None
    → AreNumberedProjections d.protocol ps → own ≡ d.machines → roles ≡ d.protocol.roles → first_own_refusal roles own ≡ Some (record { role = role; fault = f }) → HasNoSession d (refusal.IllMachine role f)
ill_own d ps own roles role f ready none h machines many is =
    ill_machine d ps (machines_of d.machines ps) role f none h refl (first_is_own d ps ready (no_fault d.protocol none) h ∙ sym (ap₂ first_own_refusal many machines) ∙ is)

pub has_own : (d : Document_data) (ps : List Projection_data) (own : List (Option Machine_data)) (roles : ℕ) → DocumentIsReady d → first_fault d.protocol ≡ None → AreNumberedProjections d.protocol ps
    → own ≡ d.machines → roles ≡ d.protocol.roles → first_own_refusal roles own ≡ None → HasMachines d ps (machines_of d.machines ps)
has_own d ps own roles ready none h machines many is =
    has_machines d ps (machines_of d.machines ps) none h refl (first_is_own d ps ready (no_fault d.protocol none) h ∙ sym (ap₂ first_own_refusal many machines) ∙ is)

pub no_derivation : (bound : ℕ) (d : Document_data) (ps : List Projection_data) (ms : List Machine_data) (u : Underivable) → HasMachines d ps ms
    → (u.fault ≡ search.NoMemory) ⊎ IsUnderivable bound ms ps u.role u.fault
    → (of_searching u.role u.fault ≡ refusal.NoMemory) ⊎ HasNoDerivations bound d (of_searching u.role u.fault)
no_derivation bound d ps ms u h why = go u.fault why
  where
    go : (f : SearchFault) → (f ≡ search.NoMemory) ⊎ IsUnderivable bound ms ps u.role f → (of_searching u.role f ≡ refusal.NoMemory) ⊎ HasNoDerivations bound d (of_searching u.role f)
    go search.NoMemory w = inl refl
    go (search.NotFound cut) (inl memory) = absurd cc
    go (search.NotFound cut) (inr w) = inr (HasNoDerivation ps ms h u.role (search.NotFound cut) w)
    go (search.Forgets node) (inl memory) = absurd cc
    go (search.Forgets node) (inr w) = inr (HasNoDerivation ps ms h u.role (search.Forgets node) w)
    go search.TooLarge (inl memory) = absurd cc
    go search.TooLarge (inr w) = inr (HasNoDerivation ps ms h u.role search.TooLarge w)

-- the reason that is told, where one is
pub of_err : {A : Type 0} (r : Result A Refusal) (why : Refusal) (P : Refusal → Type 0) → IsErrAnd r (λ e. e ≡ why) → P why → IfErr r P
of_err (Ok a) why P is h = tt
of_err (Err e) why P is h = subst P (sym is) h

pub tells_ill_formed : {A : Type 0} (d : Document_data) (f : WfFault) (r : Result A Refusal) → IsErrAnd r (λ e. e ≡ refusal.IllFormed f) → first_fault d.protocol ≡ Some f
    → IfErr r (λ why. (why ≡ refusal.NoMemory) ⊎ HasNoSession d why)
tells_ill_formed d f r is e = of_err r (refusal.IllFormed f) (λ why. (why ≡ refusal.NoMemory) ⊎ HasNoSession d why) is (inr (IsIllFormed f e))

pub tells_no_projection : {A : Type 0} (d : Document_data) (f : ProjFault) (r : Result A Refusal) → IsErrAnd r (λ e. e ≡ of_projecting f) → first_fault d.protocol ≡ None
    → (f ≡ proj.NoMemory) ⊎ Refuses d.protocol f
    → IfErr r (λ why. (why ≡ refusal.NoMemory) ⊎ HasNoSession d why)
tells_no_projection d f r is none why = of_err r (of_projecting f) (λ w. (w ≡ refusal.NoMemory) ⊎ HasNoSession d w) is (no_projection d f none why)

pub tells_no_session : {A : Type 0} (bound : ℕ) (d : Document_data) (f : Refusal) (r : Result A Refusal) → IsErrAnd r (λ e. e ≡ f) → (f ≡ refusal.NoMemory) ⊎ HasNoSession d f
    → IfErr r (λ why. (why ≡ refusal.NoMemory) ⊎ HasNoDerivations bound d why)
tells_no_session bound d f r is (inl memory) = of_err r f (λ w. (w ≡ refusal.NoMemory) ⊎ HasNoDerivations bound d w) is (inl memory)
tells_no_session bound d f r is (inr h) = of_err r f (λ w. (w ≡ refusal.NoMemory) ⊎ HasNoDerivations bound d w) is (inr (IsWithoutSession f h))

pub tells_no_derivation : {A : Type 0} (bound : ℕ) (d : Document_data) (ps : List Projection_data) (ms : List Machine_data) (u : Underivable) (r : Result A Refusal)
    → IsErrAnd r (λ e. e ≡ of_searching u.role u.fault) → HasMachines d ps ms
    → (u.fault ≡ search.NoMemory) ⊎ IsUnderivable bound ms ps u.role u.fault → IfErr r (λ why. (why ≡ refusal.NoMemory) ⊎ HasNoDerivations bound d why)
tells_no_derivation bound d ps ms u r is h why = of_err r (of_searching u.role u.fault) (λ w. (w ≡ refusal.NoMemory) ⊎ HasNoDerivations bound d w) is (no_derivation bound d ps ms u h why)

pub ill_formed_tables : (d : Document_data) (f : WfFault) (r : Result Answer_data NoMemory) → first_fault d.protocol ≡ Some f → IfOk r (λ a. a ≡ wf_answer d.names f) → IfOk r (Projects d)
ill_formed_tables d f r e is = meant (Projects d) r (wf_answer d.names f) is (λ m x. tables.IsIllFormed f e x)

pub no_tables : (d : Document_data) (f : ProjFault) (r : Result Answer_data NoMemory) → first_fault d.protocol ≡ None → (f ≡ proj.NoMemory) ⊎ Refuses d.protocol f
    → IfOk r (λ a. a ≡ proj_answer d.names f) → IfOk r (λ a. f ≡ proj.NoMemory → ⊥) → IfOk r (Projects d)
no_tables d f (Err e) none why is never = tt
no_tables d f (Ok m) none (inl memory) is never = absurd (never memory)
no_tables d f (Ok m) none (inr refused) is never = tables.HasNoProjection none refused.0 f refused.1 is

pub some_tables : (d : Document_data) (ps : List Projection_data) (text : List ℕ) → first_fault d.protocol ≡ None → AreNumberedProjections d.protocol ps → text ≡ tables.tables_text d.names ps
    → Projects d (record { text = text; verdict = verdict.Fine })
some_tables d ps text none h is = tables.HasTables ps (record { well_formed = none; projected = h }) (ap (λ z. record { text = z; verdict = verdict.Fine }) is)
