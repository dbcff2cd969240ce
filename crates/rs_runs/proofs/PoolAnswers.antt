-- What is told of runs by several workers: that it is one thing, but for the role that is named where one was stopped, and that
-- there is such a thing.
use Rattle.std.proofs.Common.{◌≡◌, inl, inr, ℕ, ◌≤◌, List, [], Some, None, length, refl, sym, ap, subst, ◌∙◌, arith}
use Rattle.std.proofs.lemmas.Bool.Decides.{leb_tells}
use Rattle.rs_core.specs.Choices.{AreWellFormed}
use Rattle.rs_core.specs.Choosing.{draws_well}
use Rattle.rs_core.specs.Determined.{SameOutcome}
use Rattle.rs_core.specs.Draws.{by_draws}
use Rattle.rs_core.specs.Histories.{transcript_of}
use Rattle.rs_core.specs.Plain.{Moment, Ending, Ended, Stopped, Stuck, IsPlain}
use Rattle.rs_core.specs.Runs.{HasActors, HasTranscripts, EndingShows}
use Rattle.rs_core.specs.Safety.{IsSafe}
use Rattle.rs_core.specs.declared.runs.Outcome.{Outcome}
use Rattle.rs_core.specs.declared.runs.Outcome.TheVariants as outcome
use Rattle.rs_core.specs.declared.transcripts.Entry.{Entry}
use Rattle.rs_core.proofs.Determined.{determined_capacity_stopped, never_stuck_shown}
use Rattle.rs_core.proofs.Unique.{one_outcome}
use Rattle.rs_derive.specs.Data.{Derivation_data}
use Rattle.rs_documents.specs.Data.{Document_data}
use Rattle.rs_documents.specs.Documents.{SpellsDocument}
use Rattle.rs_documents.proofs.SpeltSessions.{spelt_session}
use Rattle.rs_core.proofs.Ends.{comes_to_an_end}
use Rattle.rs_model.specs.Data.{Machine_data, Names_data}
use Rattle.rs_pool.specs.Pool.{AgreesWithPlain}
use Rattle.rs_pool.proofs.Alike.{both_ended, not_both}
use Rattle.rs_project.specs.Data.{Projection_data}
use Rattle.rs_safety.specs.Room.{room_of}
use Rattle.rs_answers.specs.Data.{Answer_data}
use Rattle.rs_answers.specs.Derivations.{AreCanonical}
use Rattle.rs_runs.specs.Pools as pools
use Rattle.rs_runs.specs.Pools.{AreSameOrStopped, IsRunTogether, IsTooSmall, RunsByWorkers, RunsTogether, RunsWith, TellsPool}
use Rattle.rs_answers.specs.RefusalTexts.{too_small}
use Rattle.rs_answers.specs.Refusals.{refusal_answer}
use Rattle.rs_runs.specs.Runs as runs
use Rattle.rs_runs.specs.Runs.{Runs, TellsRun, actor_of, capacity_of, ended_answer, outcome_answer}
use Rattle.rs_answers.specs.Sessions.{HasMachines}
use Rattle.rs_model.specs.declared.runs.RunOptions.{RunOptions}
use Rattle.rs_model.specs.declared.runs.Workers.{Workers}
use Rattle.rs_model.specs.declared.runs.Workers.TheVariants.{One, Several}
use Rattle.rs_answers.specs.declared.verdicts.Verdict.TheVariants as verdict
use Rattle.rs_answers.proofs.Derivings.{canonical_safe, session_of}
use Rattle.rs_answers.proofs.OneReason.{not_refused, one_refusal, one_session_derived, same_session}
use Rattle.rs_runs.proofs.Outcomes.{actors_are, one_run, some_run, transcripts_are}
use Rattle.rs_answers.proofs.Refusing.{IsRefusing, refusal_refuses}
use Rattle.rs_answers.proofs.SomeSession.{Derived, NotSo, Prepared}

-- ---- one answer

alike : (names : Names_data) (ms : List Machine_data) (given : ℕ → ℕ) (limit : ℕ) (a b : Answer_data) (x y : Outcome) (left right : List ℕ) → AgreesWithPlain ms by_draws given limit x left
    → AgreesWithPlain ms by_draws given limit y right → a ≡ outcome_answer names x → b ≡ outcome_answer names y → AreSameOrStopped a b
alike names ms given limit a b (outcome.Ended one) (outcome.Ended other) left right h k e f =
    inl (e ∙ ap (ended_answer names) (both_ended by_draws ms given limit one other left right h k).0 ∙ sym f)
alike names ms given limit a b (outcome.Ended one) (outcome.Stopped role) left right h k e f = absurd (not_both by_draws ms given limit one role left right h k)
alike names ms given limit a b (outcome.Stopped role) (outcome.Ended other) left right h k e f = absurd (not_both by_draws ms given limit other role right left k h)
alike names ms given limit a b (outcome.Stopped p) (outcome.Stopped q) left right h k e f = inr (ap (λ (z : Answer_data). z.verdict) e, ap (λ (z : Answer_data). z.verdict) f)

-- what is told of runs of the same machines by the same actors is alike
pub one_pool : (names : Names_data) (ms : List Machine_data) (given : ℕ → ℕ) (limit : ℕ) (a b : Answer_data) → TellsPool names ms given limit a → TellsPool names ms given limit b
    → AreSameOrStopped a b
one_pool names ms given limit a b h k = alike names ms given limit a b h.outcome k.outcome h.actors k.actors h.agrees k.agrees h.told k.told

-- what is told of an accepted session is alike
pub one_together : (options : RunOptions) (names : Names_data) (ms : List Machine_data) (ds : List Derivation_data) (a b : Answer_data) → RunsTogether options names ms ds a
    → RunsTogether options names ms ds b → AreSameOrStopped a b
one_together options names ms ds a b (IsTooSmall less x) (IsTooSmall more y) = inl (x ∙ sym y)
one_together options names ms ds a b (IsTooSmall less x) (IsRunTogether enough k) = absurd (omega (arith, less, enough))
one_together options names ms ds a b (IsRunTogether enough h) (IsTooSmall less y) = absurd (omega (arith, less, enough))
one_together options names ms ds a b (IsRunTogether enough h) (IsRunTogether other k) = one_pool names ms (actor_of options.seed) options.limit a b h k

-- what several workers answer to one document is alike
pub one_by_workers : (options : RunOptions) (d : Document_data) (a b : Answer_data) → RunsByWorkers options d a → RunsByWorkers options d b → AreSameOrStopped a b
one_by_workers options d a b (pools.IsRefused r h x) (pools.IsRefused s k y) = inl (x ∙ ap (refusal_answer d.names) (one_refusal options.bound d r s h k) ∙ sym y)
one_by_workers options d a b (pools.IsRefused r h x) (pools.IsAccepted ps ms ds k f y) = absurd (not_refused options.bound d ps ms ds r k f h)
one_by_workers options d a b (pools.IsAccepted ps ms ds h f x) (pools.IsRefused s k y) = absurd (not_refused options.bound d ps ms ds s h f k)
one_by_workers options d a b (pools.IsAccepted ps ms ds h f x) (pools.IsAccepted qs ns es k g y) =
    let same = same_session d ps qs ms ns h k in
    let derivations = one_session_derived options.bound d ps qs ms ns ds es h k f g in
    let P : List Machine_data → Type 0 = λ z. RunsTogether options d.names z ds a in
    let Q : List Derivation_data → Type 0 = λ z. RunsTogether options d.names ns z a in
    one_together options d.names ns es a b (subst Q derivations (subst P same.1 x)) y

-- what one worker answers to one document is one thing
pub one_by_one : (options : RunOptions) (bytes : List ℕ) (d : Document_data) (a b : Answer_data) → SpellsDocument bytes d → Runs options d a → Runs options d b → a ≡ b
one_by_one options bytes d a b doc (runs.IsRefused r h x) (runs.IsRefused s k y) = x ∙ ap (refusal_answer d.names) (one_refusal options.bound d r s h k) ∙ sym y
one_by_one options bytes d a b doc (runs.IsRefused r h x) (runs.IsRun ps ms ds k f y) = absurd (not_refused options.bound d ps ms ds r k f h)
one_by_one options bytes d a b doc (runs.IsRun ps ms ds h f x) (runs.IsRefused s k y) = absurd (not_refused options.bound d ps ms ds s h f k)
one_by_one options bytes d a b doc (runs.IsRun ps ms ds h f x) (runs.IsRun qs ns es k g y) =
    let same = same_session d ps qs ms ns h k in
    let derivations = one_session_derived options.bound d ps qs ms ns ds es h k f g in
    let session = session_of d qs ns (spelt_session bytes d doc) k.projections_are.well_formed k.projections_are.projected k.machines_are k.well_formed in
    let P : List Machine_data → Type 0 = λ z. TellsRun d.names z (actor_of options.seed) options.limit (capacity_of options.ring (room_of ds)) a in
    let Q : List Derivation_data → Type 0 = λ z. TellsRun d.names ns (actor_of options.seed) options.limit (capacity_of options.ring (room_of z)) a in
    one_run d.names ns (actor_of options.seed) options.limit (capacity_of options.ring (room_of es)) a b session.machines_fit (subst Q derivations (subst P same.1 x)) y

-- what is answered to one document by the same workers is alike
pub one_with : (workers : Workers) (options : RunOptions) (bytes : List ℕ) (d : Document_data) (a b : Answer_data) → SpellsDocument bytes d → RunsWith workers options d a
    → RunsWith workers options d b → AreSameOrStopped a b
one_with One options bytes d a b doc h k = inl (one_by_one options bytes d a b doc h k)
one_with (Several n) options bytes d a b doc h k = one_by_workers options d a b h k

-- ---- some answer

-- where a run has ended, each that comes to the same shows the same
still_shown : (roles : ℕ) (k : Moment ℕ) (o : Ending ℕ) (transcripts : List (List Entry)) (left : List ℕ) → HasTranscripts roles k.history transcripts → HasActors roles k.actor left
    → SameOutcome roles (Ended k) o → EndingShows roles o (outcome.Ended transcripts) left
still_shown roles k (Ended l) transcripts left t a same = (
  record { many = t.many; each = λ p there. t.each p there ∙ ap (λ z. Some (transcript_of z)) (same.history p) },
  record { many = a.many; each = λ p there. a.each p there ∙ ap (λ (z : ℕ). Some z) (same.actor p) },
)
still_shown roles k (Stopped p l) transcripts left t a same = absurd same
still_shown roles k (Stuck l) transcripts left t a same = absurd same

-- some outcome is that of the plain run over unbounded queues
record SomeOutcome (ms : List Machine_data) (actors : ℕ → ℕ) (limit : ℕ) : Type 0 where
  shows : Outcome
  left : List ℕ
  agrees : AgreesWithPlain ms by_draws actors limit shows left

some_outcome : (ms : List Machine_data) (actors : ℕ → ℕ) (limit : ℕ) (o : Ending ℕ) → IsSafe ms → AreWellFormed ms → IsPlain ms by_draws actors limit None o → SomeOutcome ms actors limit
some_outcome ms actors limit (Ended k) safe wf p =
    let t = transcripts_are (length ms) k.history in
    let a = actors_are (length ms) k.actor in
    record {
      shows = outcome.Ended t.0;
      left = a.0;
      agrees = record {
        some = (Ended k, p);
        each = λ o q. still_shown (length ms) k o t.0 a.0 t.1 a.1 (one_outcome by_draws ms actors limit None (Ended k) o wf p q);
      };
    }
some_outcome ms actors limit (Stopped q k) safe wf p = record {
  shows = outcome.Stopped (record { 0 = q });
  left = [];
  agrees = determined_capacity_stopped by_draws draws_well ms actors limit None q k safe wf p;
}
some_outcome ms actors limit (Stuck k) safe wf p = absurd (never_stuck_shown by_draws draws_well ms actors limit k safe wf p)

-- something is told of each run of safe machines
pub some_pool : (names : Names_data) (ms : List Machine_data) (given : ℕ → ℕ) (limit : ℕ) → IsSafe ms → AreWellFormed ms → (a : Answer_data) × TellsPool names ms given limit a
some_pool names ms given limit safe wf =
    let o = comes_to_an_end by_draws ms given limit None record { safe = safe; wf = wf; well = draws_well } in
    let x = some_outcome ms given limit o.0 safe wf o.1 in
    (outcome_answer names x.shows, record { outcome = x.shows; actors = x.left; agrees = x.agrees; told = refl })

-- something is told of each accepted session
pub some_together : (options : RunOptions) (names : Names_data) (ms : List Machine_data) (ds : List Derivation_data) → IsSafe ms → AreWellFormed ms
    → (a : Answer_data) × RunsTogether options names ms ds a
some_together options names ms ds safe wf = elim (leb_tells (room_of ds) (capacity_of options.ring (room_of ds))) [
  | inl enough ↦ let a = some_pool names ms (actor_of options.seed) options.limit safe wf in (a.0, IsRunTogether enough.1 a.1)
  | inr less ↦ (too_small (capacity_of options.ring (room_of ds)) (room_of ds), IsTooSmall less.1 refl)
]

-- several workers answer something to each document
pub some_by_workers : (options : RunOptions) (bytes : List ℕ) (d : Document_data) → SpellsDocument bytes d → Prepared options.bound d → (a : Answer_data) × RunsByWorkers options d a
some_by_workers options bytes d doc (NotSo why h) = (refusal_answer d.names why, pools.IsRefused why h refl)
some_by_workers options bytes d doc (Derived ps ms ds h found) =
    let session = session_of d ps ms (spelt_session bytes d doc) h.projections_are.well_formed h.projections_are.projected h.machines_are h.well_formed in
    let a = some_together options d.names ms ds (canonical_safe options.bound d.protocol ps ms ds session found) session.machines_fit in
    (a.0, pools.IsAccepted ps ms ds h found a.1)

-- one worker answers something to each document
pub some_by_one : (options : RunOptions) (bytes : List ℕ) (d : Document_data) → SpellsDocument bytes d → Prepared options.bound d → (a : Answer_data) × Runs options d a
some_by_one options bytes d doc (NotSo why h) = (refusal_answer d.names why, runs.IsRefused why h refl)
some_by_one options bytes d doc (Derived ps ms ds h found) =
    let session = session_of d ps ms (spelt_session bytes d doc) h.projections_are.well_formed h.projections_are.projected h.machines_are h.well_formed in
    let a = some_run d.names ms (actor_of options.seed) options.limit (capacity_of options.ring (room_of ds)) (canonical_safe options.bound d.protocol ps ms ds session found) session.machines_fit in
    (a.answer, runs.IsRun ps ms ds h found a.tells)

-- something is answered to each document by each number of workers
pub some_with : (workers : Workers) (options : RunOptions) (bytes : List ℕ) (d : Document_data) → SpellsDocument bytes d → Prepared options.bound d → (a : Answer_data) × RunsWith workers options d a
some_with One options bytes d doc prepared = some_by_one options bytes d doc prepared
some_with (Several n) options bytes d doc prepared = some_by_workers options bytes d doc prepared

-- ---- what the answers say

-- the session of the document was accepted, and run by several workers
pub record HasRunTogether (options : RunOptions) (d : Document_data) (answer : Answer_data) : Type 0 where
  pub projections : List Projection_data
  pub machines : List Machine_data
  pub derivations : List Derivation_data
  pub has : HasMachines d projections machines
  pub canonical : AreCanonical options.bound machines projections derivations
  pub room : room_of derivations ≤ capacity_of options.ring (room_of derivations)
  pub tells : TellsPool d.names machines (actor_of options.seed) options.limit answer

-- what was run came to an end or a stop
come_to : (names : Names_data) (x : Outcome) → (outcome_answer names x).verdict ≡ verdict.Full → ⊥
come_to names (outcome.Ended transcripts) full = cc (full)
come_to names (outcome.Stopped role) full = cc (full)

-- with several workers no queue stays full
pub never_full : (options : RunOptions) (d : Document_data) (a : Answer_data) → RunsByWorkers options d a → a.verdict ≡ verdict.Full → ⊥
never_full options d a (pools.IsRefused r h is) full =
    subst IsRefusing (sym (ap (λ (z : Answer_data). z.verdict) is) ∙ full) (refusal_refuses d.names r)
never_full options d a (pools.IsAccepted ps ms ds h found (IsTooSmall less is)) full = let no = sym (ap (λ (z : Answer_data). z.verdict) is) ∙ full in cc (no)
never_full options d a (pools.IsAccepted ps ms ds h found (IsRunTogether enough tells)) full = come_to d.names tells.outcome (sym (ap (λ (z : Answer_data). z.verdict) tells.told) ∙ full)
