-- A run whose queues hold as many messages as the room says is never full.
use Rattle.std.proofs.Common.{◌≡◌, ℕ, ◌≤◌, List, Some, sym, ap, subst, ◌∙◌}
use Rattle.rs_core.specs.Draws.{by_draws}
use Rattle.rs_core.specs.Plain.{Moment, Ending, Stuck, IsPlain}
use Rattle.rs_derive.specs.Data.{Derivation_data}
use Rattle.rs_documents.specs.Data.{Document_data}
use Rattle.rs_documents.specs.Documents.{SpellsDocument}
use Rattle.rs_exec.proofs.NeverFull.{never_stuck_shown}
use Rattle.rs_model.specs.Data.{Machine_data, Names_data}
use Rattle.rs_model.specs.Limits.{IsBound}
use Rattle.rs_project.specs.Data.{Projection_data}
use Rattle.rs_safety.specs.Accepting.{Accepted_data}
use Rattle.rs_safety.specs.Room.{room_of}
use Rattle.rs_answers.specs.Data.{Answer_data}
use Rattle.rs_answers.specs.Derivations.{AreCanonical}
use Rattle.rs_tool.specs.RunHeadline.{IsOfRun}
use Rattle.rs_runs.specs.Runs as runs
use Rattle.rs_runs.specs.Runs.{Runs, TellsEnd, HasEnded, IsStopped, IsFull, actor_of, capacity_of}
use Rattle.rs_answers.specs.Sessions.{HasMachines}
use Rattle.rs_tool.specs.Statuses.{status_of}
use Rattle.rs_model.specs.declared.runs.RunOptions.{RunOptions}
use Rattle.rs_answers.specs.declared.verdicts.Verdict.{Verdict}
use Rattle.rs_answers.specs.declared.verdicts.Verdict.TheVariants.{Full}
use Rattle.rs_answers.proofs.AcceptedSessions.{is_accepted}
use Rattle.rs_tool.proofs.Headline.{no_run, refusal_is_no_run}
use Rattle.rs_answers.proofs.OneReason.{one_session_derived}
use Rattle.rs_answers.proofs.SomeSession.{Derived}
use Rattle.rs_model.specs.declared.runs.Workers.TheVariants.{One}
use Rattle.rs_run_pictures.specs.Draws.{DrawsRun}
use Rattle.rs_run_pictures.proofs.OneRunPicture.{same_verdict}
use Rattle.rs_runs.proofs.PoolAnswers.{some_with}

-- what is told of an end with the verdict `Full` is told of a run in which no role could move
stuck : (names : Names_data) (ms : List Machine_data) (ds : List Derivation_data) (options : RunOptions) (capacity : ℕ) (a : Answer_data) (o : Ending ℕ)
    → ((end : Moment ℕ) → IsPlain ms by_draws (actor_of options.seed) options.limit (Some capacity) (Stuck end) → ⊥)
    → IsPlain ms by_draws (actor_of options.seed) options.limit (Some capacity) o → TellsEnd names ms capacity a o → a.verdict ≡ Full → ⊥
stuck names ms ds options capacity a o never p (HasEnded k ts h e) full = let is = sym (ap (λ (z : Answer_data). z.verdict) e) ∙ full in cc (is)
stuck names ms ds options capacity a o never p (IsStopped q k e) full = let is = sym (ap (λ (z : Answer_data). z.verdict) e) ∙ full in cc (is)
stuck names ms ds options capacity a o never p (IsFull k s r h e) full = never k p

pub never_full : (options : RunOptions) (bytes : List ℕ) (d : Document_data) (ps : List Projection_data) (ms : List Machine_data) (ds : List Derivation_data) (a : Answer_data) → IsBound options.bound
    → SpellsDocument bytes d → HasMachines d ps ms
    → AreCanonical options.bound ms ps ds → room_of ds ≤ capacity_of options.ring (room_of ds) → Runs options d a → a.verdict ≡ Full → ⊥
never_full options bytes d ps ms ds a within doc h f enough (runs.IsRefused r k is) full =
    no_run a _ is (refusal_is_no_run d.names r) (subst (λ (v : Verdict). IsOfRun (status_of v)) (sym full) tt)
never_full options bytes d ps ms ds a within doc h f enough (runs.IsRun qs ns es k g tells) full =
    let derivations = one_session_derived options.bound d ps qs ms ns ds es h k f g in
    let room : room_of es ≤ capacity_of options.ring (room_of es) = subst (λ (z : List Derivation_data). room_of z ≤ capacity_of options.ring (room_of z)) derivations enough in
    let session : Accepted_data = record { protocol = d.protocol; projections = qs; derivations = es; machines = ns } in
    stuck d.names ns es options (capacity_of options.ring (room_of es)) a tells.end
    (λ end p. never_stuck_shown by_draws session (actor_of options.seed) options.limit (capacity_of options.ring (room_of es)) end (is_accepted options.bound bytes d qs ns es within doc k g) room p)
    tells.plain tells.tells full

-- the same of a run that is drawn, since it has the verdict of `run`
pub drawn_never_full : (options : RunOptions) (bytes : List ℕ) (d : Document_data) (ps : List Projection_data) (ms : List Machine_data) (ds : List Derivation_data) (a : Answer_data) → IsBound options.bound
    → SpellsDocument bytes d → HasMachines d ps ms
    → AreCanonical options.bound ms ps ds → room_of ds ≤ capacity_of options.ring (room_of ds) → DrawsRun options d a → a.verdict ≡ Full → ⊥
drawn_never_full options bytes d ps ms ds a within doc h f enough drawn full =
    let told = some_with One options bytes d doc (Derived ps ms ds h f) in
    never_full options bytes d ps ms ds told.0 within doc h f enough told.1 (sym (same_verdict options bytes d a told.0 doc drawn told.1) ∙ full)
