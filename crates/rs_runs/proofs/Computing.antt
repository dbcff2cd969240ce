-- A demo that is fine prints what it computes.
use Rattle.std.proofs.Common.{◌≡◌, ℕ, suc, Bool, true, false, if◌then◌else◌, List, [], ◌∷◌, length, map, Option, Some, None, slice_get, refl, sym, ap, ap₂, ◌∙◌, subst}
use Rattle.rs_answers.specs.Data.{Answer_data}
use Rattle.rs_answers.specs.Machines.{machine_or, machines_of}
use Rattle.rs_answers.specs.RefusalTexts.{proj_answer, search_answer, wf_answer}
use Rattle.rs_answers.specs.Refusals.{refusal_answer}
use Rattle.rs_answers.specs.Sessions.{HasMachines}
use Rattle.rs_answers.specs.declared.refusals.Refusal.{Refusal}
use Rattle.rs_answers.specs.declared.refusals.Refusal.TheVariants as refusal
use Rattle.rs_answers.specs.declared.verdicts.Verdict.TheVariants.{Fine}
use Rattle.rs_core.specs.Plain.{Ending, Ended, IsPlain}
use Rattle.rs_core.specs.Runs.{HasActors}
use Rattle.rs_runs.specs.Demos.{AnswersDemo, HasBadNumbers, IsDocument, AnswersOwn, IsRefused, IsAccepted, IsTooSmall, IsRun, Opens, TellsDemoEnd, HasEnded, IsStopped, actor_at}
use Rattle.rs_runs.specs.declared.limits.TheConstants.{DEMO_LIMIT}
use Rattle.rs_runs.proofs.Opening.{has_session_for}
use Rattle.rs_runs.proofs.Performing.{given}
use Rattle.rs_demos.specs.Acting.{by_demo}
use Rattle.rs_demos.specs.Results.{Computes}
use Rattle.rs_demos.specs.Sessions.{demo_machines, demo_protocol, has_line, has_session, machine_with_line}
use Rattle.rs_demos.specs.Starts.{StartsWithActors}
use Rattle.rs_demos.specs.Texts.{document_of}
use Rattle.rs_demos.specs.declared.actors.DemoTalker.{DemoTalker}
use Rattle.rs_demos.proofs.Computing.{ended_run}
use Rattle.rs_demos.proofs.Projected.{projected}
use Rattle.rs_demos.proofs.SpeltDocuments.{in_place_at, machines_many, spelt_document}
use Rattle.rs_documents.specs.Data.{Document_data}
use Rattle.rs_documents.specs.Documents.{SpellsDocument}
use Rattle.rs_documents.proofs.OneDocument.{one_document}
use Rattle.rs_model.specs.Data.{Machine_data, Names_data}
use Rattle.rs_model.specs.declared.graph.Role.{Role}
use Rattle.rs_model.specs.declared.demos.Demo.{Demo}
use Rattle.rs_project.specs.Data.{Projection_data}
use Rattle.rs_project.specs.Numbered.{AreNumberedProjections}
use Rattle.rs_project.specs.declared.projecting.ProjFault.{ProjFault}
use Rattle.rs_project.specs.declared.projecting.ProjFault.TheVariants as proj
use Rattle.rs_project.proofs.OneProjection.{one_projection}
use Rattle.rs_search.specs.declared.faults.SearchFault.{SearchFault}
use Rattle.rs_search.specs.declared.faults.SearchFault.TheVariants as search
use Rattle.rs_wellformed.specs.WellFormed.{IsWellFormed}
use Rattle.rs_wellformed.specs.declared.checks.WfFault.{WfFault}
use Rattle.rs_wellformed.specs.declared.checks.WfFault.TheVariants as wf
use Rattle.rs_wellformed.proofs.Faults as of_protocols

-- ---- the machines

-- where each machine that has no line is its role's projection, these are the machines of the session
own_machines : (kind : Demo) (ms : List Machine_data) (ps : List Projection_data) → length ms ≡ length ps
    → ((p : ℕ) (m : Machine_data) (j : Projection_data) → slice_get ms p ≡ Some m → slice_get ps p ≡ Some j → machine_or (machine_with_line kind m) j ≡ m)
    → machines_of (map (machine_with_line kind) ms) ps ≡ ms
own_machines kind [] [] size h = refl
own_machines kind [] (j ∷ ps) size h = refl
own_machines kind (m ∷ ms) [] size h = absurd (cc (size))
own_machines kind (m ∷ ms) (j ∷ ps) size h = ap₂ (λ (x : Machine_data) (xs : List Machine_data). x ∷ xs) (h 0 m j refl refl) (own_machines kind ms ps (cc (size)) (λ p x y e f. h (suc p) x y e f))

own_machine : (kind : Demo) (n p : ℕ) (m : Machine_data) (ps : List Projection_data) (j : Projection_data) → has_session kind n ≡ true → IsWellFormed (demo_protocol kind n)
    → AreNumberedProjections (demo_protocol kind n) ps
    → slice_get (demo_machines kind n) p ≡ Some m → slice_get ps p ≡ Some j → machine_or (machine_with_line kind m) j ≡ m
own_machine kind n p m ps j s w h e f = go (has_line kind m.role.0) refl
  where
    go : (b : Bool) → has_line kind m.role.0 ≡ b → machine_or (if b then Some m else None) j ≡ m
    go true line = refl
    go false line =
        let none : has_line kind p ≡ false = subst (λ (z : ℕ). has_line kind z ≡ false) (in_place_at kind n p m e) line in
        let theirs = projected kind n p m s e none in
        ap (λ (z : Projection_data). z.machine) (one_projection (demo_protocol kind n) (record { 0 = p }) j (record { machine = m; sets = theirs.0 }) w (h.each p j f) theirs.1)

pub demo_machines_shown : (kind : Demo) (n : ℕ) (ps : List Projection_data) (ms : List Machine_data) → has_session kind n ≡ true → (demo_protocol kind n).roles ≡ n
    → HasMachines (document_of kind n) ps ms
    → ms ≡ demo_machines kind n
demo_machines_shown kind n ps ms s roles h =
    let w = of_protocols.no_fault (demo_protocol kind n) h.projections_are.well_formed in
    let projected = h.projections_are.projected in
    h.machines_are ∙ own_machines kind (demo_machines kind n) ps (machines_many kind n roles ∙ sym roles ∙ sym projected.many) (λ p m j e f. own_machine kind n p m ps j s w projected e f)

-- ---- what isn't fine

abbrev IsNotFine : Answer_data → Type 0
IsNotFine a = a.verdict ≡ Fine → ⊥

not_fine : (a b : Answer_data) → a ≡ b → IsNotFine b → IsNotFine a
not_fine a b e h = subst IsNotFine (sym e) h

wf_isnt_fine : (names : Names_data) (f : WfFault) → IsNotFine (wf_answer names f)
wf_isnt_fine names (wf.SelfTalk n) e = cc
wf_isnt_fine names (wf.NoArms n) e = cc
wf_isnt_fine names (wf.TooManyArms n) e = cc
wf_isnt_fine names (wf.TwiceLabel n l) e = cc
wf_isnt_fine names (wf.BadNext n) e = cc

proj_isnt_fine : (names : Names_data) (f : ProjFault) → IsNotFine (proj_answer names f)
proj_isnt_fine names (proj.Unmergeable r a b) e = cc
proj_isnt_fine names (proj.Unreached r n) e = cc
proj_isnt_fine names (proj.TooManyStates r) e = cc
proj_isnt_fine names proj.NoMemory e = cc

search_isnt_fine : (names : Names_data) (role : Role) (f : SearchFault) → IsNotFine (search_answer names role f)
search_isnt_fine names role (search.NotFound cut) e = cc
search_isnt_fine names role (search.Forgets n) e = cc
search_isnt_fine names role search.TooLarge e = cc
search_isnt_fine names role search.NoMemory e = cc

refusal_isnt_fine : (names : Names_data) (r : Refusal) → IsNotFine (refusal_answer names r)
refusal_isnt_fine names (refusal.IllFormed f) e = wf_isnt_fine names f e
refusal_isnt_fine names (refusal.Unprojectable f) e = proj_isnt_fine names f e
refusal_isnt_fine names (refusal.IllMachine role f) e = cc
refusal_isnt_fine names (refusal.Underivable u) e = search_isnt_fine names u.role u.fault e
refusal_isnt_fine names (refusal.Blamed role b) e = cc
refusal_isnt_fine names refusal.NoMemory e = cc

-- ---- the run

end_computes : (kind : Demo) (bytes : List ℕ) (actors : List DemoTalker) (names : Names_data) (ms : List Machine_data) (capacity : ℕ) (a : Answer_data) (o : Ending DemoTalker)
    → StartsWithActors kind bytes actors → ms ≡ demo_machines kind (length actors) → length ms ≡ length actors
    → IsPlain ms by_demo (actor_at actors) DEMO_LIMIT (Some capacity) o → TellsDemoEnd kind names (length ms) a o → a.verdict ≡ Fine → Computes kind bytes a.text
end_computes kind bytes actors names ms capacity a o starts own many plain (IsStopped p k x) fine = absurd (not_fine a _ x (λ e. cc) fine)
end_computes kind bytes actors names ms capacity a o starts own many plain (HasEnded k after h x) fine =
    let P : List Machine_data → Type 0 = λ z. IsPlain z by_demo (actor_at actors) DEMO_LIMIT (Some capacity) (Ended k) in
    let Q : ℕ → Type 0 = λ z. HasActors z k.actor after in
    subst (λ (z : Answer_data). Computes kind bytes z.text) (sym x)
    (ended_run kind bytes actors after (actor_at actors) DEMO_LIMIT (Some capacity) k starts (given actors) (subst P own plain) (subst Q many h))

own_computes : (kind : Demo) (ring : Option ℕ) (bytes : List ℕ) (actors : List DemoTalker) (text : List ℕ) (d : Document_data) (a : Answer_data) → Opens kind bytes actors text → SpellsDocument text d
    → AnswersOwn kind ring actors d a → a.verdict ≡ Fine → Computes kind bytes a.text
own_computes kind ring bytes actors text d a o doc (IsRefused r h x) fine = absurd (not_fine a _ x (refusal_isnt_fine d.names r) fine)
own_computes kind ring bytes actors text d a o doc (IsAccepted ps ms ds h found (IsTooSmall l x)) fine = absurd (not_fine a _ x (λ e. cc) fine)
own_computes kind ring bytes actors text d a o doc (IsAccepted ps ms ds h found (IsRun l run)) fine =
    let s = has_session_for kind bytes actors o.starts in
    let same : d ≡ document_of kind (length actors) = one_document text d (document_of kind (length actors)) doc (spelt_document kind (length actors) text s.has o.document) in
    let P : Document_data → Type 0 = λ z. HasMachines z ps ms in
    let own = demo_machines_shown kind (length actors) ps ms s.has s.roles (subst P same h) in
    let many : length ms ≡ length actors = ap length own ∙ machines_many kind (length actors) s.roles in
    end_computes kind bytes actors d.names ms _ a run.end o.starts own many run.plain run.tells fine

pub computed : (kind : Demo) (ring : Option ℕ) (bytes : List ℕ) (a : Answer_data) → AnswersDemo kind ring bytes a → a.verdict ≡ Fine → Computes kind bytes a.text
computed kind ring bytes a (HasBadNumbers n x) fine = absurd (not_fine a _ x (λ e. cc) fine)
computed kind ring bytes a (IsDocument actors text d o doc own) fine = own_computes kind ring bytes actors text d a o doc own fine
