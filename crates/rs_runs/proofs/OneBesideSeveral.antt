-- One worker and several answer the same, where the rings hold the room of the session, but for which role they tell as stopped.
use Rattle.std.proofs.Common.{◌≡◌, inl, inr, ℕ, ◌≤◌, List, length, Some, None, sym, ap, subst, ◌∙◌, arith}
use Rattle.rs_core.specs.Choices.{AreWellFormed}
use Rattle.rs_core.specs.Choosing.{draws_well}
use Rattle.rs_core.specs.Determined.{PlainIs, WasStopped}
use Rattle.rs_core.specs.Draws.{by_draws}
use Rattle.rs_core.specs.Plain.{Moment, Ending, Ended, Stopped, Stuck, IsPlain}
use Rattle.rs_core.specs.Runs.{EndingShows}
use Rattle.rs_core.specs.Safety.{IsSafe}
use Rattle.rs_core.specs.declared.runs.Outcome.{Outcome}
use Rattle.rs_core.specs.declared.runs.Outcome.TheVariants as outcome
use Rattle.rs_core.specs.declared.transcripts.Entry.{Entry}
use Rattle.rs_core.proofs.Determined.{determined_capacity, determined_capacity_stopped}
use Rattle.rs_derive.specs.Data.{Derivation_data}
use Rattle.rs_documents.specs.Data.{Document_data}
use Rattle.rs_documents.specs.Documents.{SpellsDocument}
use Rattle.rs_exec.proofs.NeverFull.{never_stuck_shown}
use Rattle.rs_model.specs.Data.{Machine_data, Names_data}
use Rattle.rs_model.specs.Limits.{IsBound}
use Rattle.rs_model.specs.declared.runs.RunOptions.{RunOptions}
use Rattle.rs_pool.specs.Pool.{AgreesWithPlain}
use Rattle.rs_safety.specs.Accepting.{Accepted_data, IsAcceptedSession}
use Rattle.rs_safety.specs.Room.{room_of}
use Rattle.rs_answers.specs.Data.{Answer_data}
use Rattle.rs_runs.specs.Pools as pools
use Rattle.rs_runs.specs.Pools.{AreSameOrStopped, IsRunTogether, IsTooSmall, RingsHoldItsRoom, RunsByWorkers, RunsTogether, TellsPool}
use Rattle.rs_answers.specs.Refusals.{refusal_answer}
use Rattle.rs_runs.specs.Runs as runs
use Rattle.rs_runs.specs.Runs.{Runs, IsStopped, TellsEnd, TellsRun, actor_of, capacity_of, outcome_answer}
use Rattle.rs_answers.specs.declared.verdicts.Verdict.TheVariants as verdict
use Rattle.rs_answers.proofs.AcceptedSessions.{is_accepted}
use Rattle.rs_answers.proofs.OneReason.{not_refused, one_refusal, one_session_derived, same_session}
use Rattle.rs_runs.proofs.Outcomes.{one_run, tells_shown}
use Rattle.rs_runs.proofs.OverRings.{shown_of}

-- what was stopped shows no transcripts
not_ended : (roles : ℕ) (o : Ending ℕ) (transcripts : List (List Entry)) (left : List ℕ) → WasStopped o → EndingShows roles o (outcome.Ended transcripts) left → ⊥
not_ended roles (Ended k) transcripts left stopped shows = stopped
not_ended roles (Stopped p k) transcripts left stopped shows = shows
not_ended roles (Stuck k) transcripts left stopped shows = stopped

module _ (names : Names_data) (ms : List Machine_data) (given : ℕ → ℕ) (limit capacity : ℕ) (safe : IsSafe ms) (wf : AreWellFormed ms) where
  -- where the plain run over rings was stopped, workers tell that a role was
  told_stopped : (b : Answer_data) (x : Outcome) (left : List ℕ) → PlainIs ms by_draws given limit None WasStopped → AgreesWithPlain ms by_draws given limit x left → b ≡ outcome_answer names x
      → b.verdict ≡ verdict.Stopped
  told_stopped b (outcome.Ended transcripts) left stopped agrees told =
      absurd (not_ended (length ms) stopped.some.0 transcripts left (stopped.each stopped.some.0 stopped.some.1) (agrees.each stopped.some.0 stopped.some.1))
  told_stopped b (outcome.Stopped role) left stopped agrees told = ap (λ (z : Answer_data). z.verdict) told

  same_end : (a b : Answer_data) (o : Ending ℕ) → ((k : Moment ℕ) → IsPlain ms by_draws given limit (Some capacity) (Stuck k) → ⊥) → IsPlain ms by_draws given limit (Some capacity) o
      → TellsEnd names ms capacity a o → TellsPool names ms given limit b → AreSameOrStopped a b
  same_end a b (Ended k) never plain tells pool =
      let shows = shown_of by_draws ms given limit k pool.outcome pool.actors (determined_capacity by_draws draws_well ms given limit (Some capacity) k safe wf plain) pool.agrees in
      let other : TellsEnd names ms capacity b (Ended k) = tells_shown names ms capacity (Ended k) pool.outcome pool.actors b shows pool.told in
      inl (one_run names ms given limit capacity a b wf (record { end = Ended k; plain = plain; tells = tells }) (record { end = Ended k; plain = plain; tells = other }))
  same_end a b (Stopped p k) never plain (IsStopped q l e) pool =
      let stopped = determined_capacity_stopped by_draws draws_well ms given limit (Some capacity) p k safe wf plain in
      inr (ap (λ (z : Answer_data). z.verdict) e, told_stopped b pool.outcome pool.actors stopped.0 pool.agrees pool.told)
  same_end a b (Stuck k) never plain tells pool = absurd (never k plain)

-- an accepted session
same_session_told : (options : RunOptions) (names : Names_data) (session : Accepted_data) (a b : Answer_data) → IsAcceptedSession session
    → room_of session.derivations ≤ capacity_of options.ring (room_of session.derivations)
    → TellsRun names session.machines (actor_of options.seed) options.limit (capacity_of options.ring (room_of session.derivations)) a
    → RunsTogether options names session.machines session.derivations b → AreSameOrStopped a b
same_session_told options names session a b accepted enough tells (IsTooSmall less is) = absurd (omega (arith, less, enough))
same_session_told options names session a b accepted enough tells (IsRunTogether room pool) =
    let capacity : ℕ = capacity_of options.ring (room_of session.derivations) in
    same_end names session.machines (actor_of options.seed) options.limit capacity accepted.safe accepted.is_session.machines_fit a b tells.end
    (λ k plain. never_stuck_shown by_draws session (actor_of options.seed) options.limit capacity k accepted enough plain) tells.plain tells.tells pool

pub one_beside_several : (options : RunOptions) (bytes : List ℕ) (d : Document_data) (a b : Answer_data) → IsBound options.bound → SpellsDocument bytes d → RingsHoldItsRoom options d
    → Runs options d a → RunsByWorkers options d b → AreSameOrStopped a b
one_beside_several options bytes d a b within doc room (runs.IsRefused r h x) (pools.IsRefused s k y) = inl (x ∙ ap (refusal_answer d.names) (one_refusal options.bound d r s h k) ∙ sym y)
one_beside_several options bytes d a b within doc room (runs.IsRefused r h x) (pools.IsAccepted ps ms ds k f y) = absurd (not_refused options.bound d ps ms ds r k f h)
one_beside_several options bytes d a b within doc room (runs.IsRun ps ms ds h f x) (pools.IsRefused s k y) = absurd (not_refused options.bound d ps ms ds s h f k)
one_beside_several options bytes d a b within doc room (runs.IsRun ps ms ds h f x) (pools.IsAccepted qs ns es k g y) =
    let same = same_session d ps qs ms ns h k in
    let derivations = one_session_derived options.bound d ps qs ms ns ds es h k f g in
    let session : Accepted_data = record { protocol = d.protocol; projections = qs; derivations = es; machines = ns } in
    let P : List Machine_data → Type 0 = λ z. TellsRun d.names z (actor_of options.seed) options.limit (capacity_of options.ring (room_of ds)) a in
    let Q : List Derivation_data → Type 0 = λ z. TellsRun d.names ns (actor_of options.seed) options.limit (capacity_of options.ring (room_of z)) a in
    same_session_told options d.names session a b (is_accepted options.bound bytes d qs ns es within doc k g) (room qs ns es k g) (subst Q derivations (subst P same.1 x)) y

-- where several workers tell of no ring that is too small, the rings hold the room
holds : (options : RunOptions) (d : Document_data) (b : Answer_data) → (b.verdict ≡ verdict.RoomTooSmall → ⊥) → RunsByWorkers options d b → RingsHoldItsRoom options d
holds options d b not (pools.IsRefused s k y) ps ms ds h f = absurd (not_refused options.bound d ps ms ds s h f k)
holds options d b not (pools.IsAccepted qs ns es k g (IsTooSmall less is)) ps ms ds h f = absurd (not (ap (λ (z : Answer_data). z.verdict) is))
holds options d b not (pools.IsAccepted qs ns es k g (IsRunTogether enough pool)) ps ms ds h f =
    let P : List Derivation_data → Type 0 = λ z. room_of z ≤ capacity_of options.ring (room_of z) in
    subst P (sym (one_session_derived options.bound d ps qs ms ns ds es h k f g)) enough

pub one_beside_many : (options : RunOptions) (bytes : List ℕ) (d : Document_data) (a b : Answer_data) → IsBound options.bound → SpellsDocument bytes d → (b.verdict ≡ verdict.RoomTooSmall → ⊥)
    → Runs options d a → RunsByWorkers options d b → AreSameOrStopped a b
one_beside_many options bytes d a b within doc not one several = one_beside_several options bytes d a b within doc (holds options d b not several) one several
