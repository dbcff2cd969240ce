-- What is told of a run is what comes of what was ready.
use Rattle.std.proofs.Common.{◌≡◌, ℕ, List, Some, None, Result, Ok, Err, length, sym, subst}
use Rattle.std.specs.Prelude.{IfOk}
use Rattle.rs_answers.specs.Data.{Answer_data}
use Rattle.rs_runs.specs.Demos.{actor_at, demo_outcome_answer}
use Rattle.rs_runs.specs.DemoSessions.{WasRunByActors}
use Rattle.rs_runs.specs.Ready.{ComesOf, HasActorEach, IsReadyDemo, NeverStopped}
use Rattle.rs_runs.specs.Runs.{TellsRun, full_answer, outcome_answer}
use Rattle.rs_runs.specs.RunSessions.{HasCome, IsThereWhere, WasRunByDraws}
use Rattle.rs_runs.specs.declared.answers.AnswerWithSession.{AnswerWithSession}
use Rattle.rs_runs.specs.declared.limits.TheConstants.{DEMO_LIMIT}
use Rattle.rs_runs.specs.declared.ready.Prepared.TheVariants.{Run}
use Rattle.rs_runs.specs.declared.ready.Prepared.TheVariants as prepared
use Rattle.rs_runs.specs.declared.ready.Ready.{Ready}
use Rattle.rs_runs.proofs.Outcomes.{tells_run, tells_run_full}
use Rattle.rs_runs.proofs.OverRings.{over_rings}
use Rattle.rs_runs.proofs.Performing as performing
use Rattle.rs_runs.proofs.RunSessions.{alone, has_come, made_alone, not_there, was_run_by_draws}
use Rattle.rs_core.specs.Draws.{by_draws}
use Rattle.rs_core.specs.Plain.{Ending, IsPlain}
use Rattle.rs_core.specs.Runs.{EndingShows, IsFullAt, IsGiven}
use Rattle.rs_core.specs.declared.runs.Outcome.{Outcome}
use Rattle.rs_demos.specs.Acting.{by_demo, demo_conduct}
use Rattle.rs_actors.specs.Choosing.{chooses_by_sorts}
use Rattle.rs_demos.specs.declared.actors.DemoTalker.{DemoTalker}
use Rattle.rs_exec.proofs.NeverFull.{never_stuck_shown}
use Rattle.rs_exec.specs.Runs.{IsSessionOfRun}
use Rattle.rs_model.specs.declared.demos.Demo.{Demo}
use Rattle.rs_model.specs.declared.graph.Role.{Role}
use Rattle.rs_model.specs.declared.memory.NoMemory.{NoMemory}
use Rattle.rs_model.specs.declared.runs.Workers.TheVariants.{One, Several}
use Rattle.rs_pool.specs.Pool.{AgreesWithPlain}
use Rattle.rs_rings.specs.Closed.{Closed_data}
use Rattle.rs_safety.specs.Accepting.{IsAcceptedSession}

-- two facts of what was made
both_ok : {A E : Type 0} (r : Result A E) (P Q R : A → Type 0) → ((a : A) → P a → Q a → R a) → IfOk r P → IfOk r Q → IfOk r R
both_ok (Ok a) P Q R next p q = next a p q
both_ok (Err e) P Q R next p q = tt

-- ---- of a document

module _ (ready : Ready ℕ) (each : HasActorEach ready) (closed : Closed_data) (x : Outcome) (left : List ℕ)
    (session : IsSessionOfRun ready.session.machines by_draws ready.actors.items ready.limit closed x left) where
  handed : (given : ℕ → ℕ) (g : AnswerWithSession) → IsGiven given ready.actors.items → g.answer ≡ outcome_answer ready.names x → g.closed ≡ Some closed
      → IsThereWhere (HasCome g.answer.verdict) (WasRunByDraws ready.names ready.session.machines given ready.limit g.answer) g.closed
  handed given g is told there =
      subst (IsThereWhere (HasCome g.answer.verdict) (WasRunByDraws ready.names ready.session.machines given ready.limit g.answer)) (sym there)
      (has_come ready.names x g.answer told, was_run_by_draws ready.names ready.session.machines given ready.limit ready.actors.items left closed x g.answer is each session told)

  pub told_alone : (capacity : ℕ) (r : Result AnswerWithSession NoMemory) → capacity ≡ ready.capacity
      → ((given : ℕ → ℕ) → IsGiven given ready.actors.items → (o : Ending ℕ) × IsPlain ready.session.machines by_draws given ready.limit (Some capacity) o
      × EndingShows (length ready.session.machines) o x left)
      → IfOk r (λ a. a.answer ≡ outcome_answer ready.names x) → IfOk r (λ a. a.closed ≡ Some closed) → IfOk r (ComesOf One (Run ready))
  told_alone capacity r same plain = both_ok r _ _ _ (λ g told there given is. (
    subst (λ (n : ℕ). TellsRun ready.names ready.session.machines given ready.limit n g.answer) same
        (tells_run ready.names ready.session.machines given ready.limit capacity x left g.answer (plain given is) told),
    handed given g is told there,
  ))

  pub told_by_crew : (crew : ℕ) (r : Result AnswerWithSession NoMemory)
      → ((given : ℕ → ℕ) → IsGiven given ready.actors.items → AgreesWithPlain ready.session.machines by_draws given ready.limit x left)
      → IfOk r (λ a. a.answer ≡ outcome_answer ready.names x) → IfOk r (λ a. a.closed ≡ Some closed) → IfOk r (ComesOf (Several crew) (Run ready))
  told_by_crew crew r agrees = both_ok r _ _ _ (λ g told there given is. (record { outcome = x; actors = left; agrees = agrees given is; told = told }, handed given g is told there))

-- a queue is full, and no session is handed out
pub told_full : (ready : Ready ℕ) (capacity : ℕ) (sender receiver : Role) (sent taken : ℕ) (r : Result Answer_data NoMemory) (s : Result AnswerWithSession NoMemory) → capacity ≡ ready.capacity
    → ((given : ℕ → ℕ) → IsGiven given ready.actors.items → IsFullAt ready.session.machines by_draws given ready.limit capacity sender receiver sent taken)
    → IfOk s (λ a. (r ≡ Ok a.answer) × (a.closed ≡ None)) → IfOk r (λ a. a ≡ full_answer ready.names sender receiver sent taken) → IfOk s (ComesOf One (Run ready))
told_full ready capacity sender receiver sent taken r s same full is told =
    made_alone (λ a. a ≡ full_answer ready.names sender receiver sent taken) (ComesOf One (Run ready)) r s is told (λ g e none given here. (
      subst (λ (n : ℕ). TellsRun ready.names ready.session.machines given ready.limit n g.answer) same
          (tells_run_full ready.names ready.session.machines given ready.limit capacity sender receiver sent taken g.answer (full given here) e),
      not_there _ _ g.closed none (alone g.answer (full_answer ready.names sender receiver sent taken) e (λ h. h)),
    ))

-- ---- of a demo

module _ (kind : Demo) (ready : Ready DemoTalker) (fit : IsReadyDemo ready) (accepted : IsAcceptedSession ready.session) (closed : Closed_data) (x : Outcome) (left : List DemoTalker)
    (session : IsSessionOfRun ready.session.machines by_demo ready.actors.items ready.limit closed x left) where
  handed_demo : (g : AnswerWithSession) → g.answer ≡ demo_outcome_answer kind ready.names x left → g.closed ≡ Some closed
      → IsThereWhere (HasCome g.answer.verdict) (WasRunByActors kind ready.actors.items ready.names ready.session.machines g.answer) g.closed
  handed_demo g told there =
      let P : ℕ → Type 0 = λ n. IsSessionOfRun ready.session.machines by_demo ready.actors.items n closed x left in
      subst (IsThereWhere (HasCome g.answer.verdict) (WasRunByActors kind ready.actors.items ready.names ready.session.machines g.answer)) (sym there) (
        performing.has_come kind ready.names x left g.answer told,
        performing.was_run_by_actors kind ready.actors.items ready.names ready.session.machines left closed x g.answer fit.actors (subst P fit.limit session) told,
      )

  pub performed_alone : (capacity : ℕ) (r : Result AnswerWithSession NoMemory) → capacity ≡ ready.capacity
      → ((given : ℕ → DemoTalker) → IsGiven given ready.actors.items
      → (o : Ending DemoTalker) × IsPlain ready.session.machines by_demo given ready.limit (Some capacity) o × EndingShows (length ready.session.machines) o x left)
      → IfOk r (λ a. a.answer ≡ demo_outcome_answer kind ready.names x left) → IfOk r (λ a. a.closed ≡ Some closed) → IfOk r (ComesOf One (prepared.Demo kind ready))
  performed_alone capacity r same plain =
      let P : ℕ → ℕ → Type 0 = λ l c. (o : Ending DemoTalker) × IsPlain ready.session.machines by_demo (actor_at ready.actors.items) l (Some c) o
      × EndingShows (length ready.session.machines) o x left in
      let told_of = subst (λ (l : ℕ). P l ready.capacity) fit.limit (subst (λ (c : ℕ). P ready.limit c) same (plain (actor_at ready.actors.items) (performing.given ready.actors.items))) in
      both_ok r _ _ _ (λ g told there. (performing.told kind ready.actors.items ready.names ready.session.machines ready.capacity x left g.answer told_of told, handed_demo g told there))

  pub performed_by_crew : (crew : ℕ) (r : Result AnswerWithSession NoMemory) → NeverStopped ready.actors.items ready.session.machines
      → ((given : ℕ → DemoTalker) → IsGiven given ready.actors.items → AgreesWithPlain ready.session.machines by_demo given ready.limit x left)
      → IfOk r (λ a. a.answer ≡ demo_outcome_answer kind ready.names x left) → IfOk r (λ a. a.closed ≡ Some closed) → IfOk r (ComesOf (Several crew) (prepared.Demo kind ready))
  performed_by_crew crew r never agrees =
      let given = actor_at ready.actors.items in
      let P : ℕ → Type 0 = λ l. AgreesWithPlain ready.session.machines by_demo given l x left in
      let told_of = over_rings by_demo ready.session.machines given DEMO_LIMIT (chooses_by_sorts demo_conduct) accepted.safe accepted.is_session.machines_fit ready.capacity x left
      (λ k p. never_stuck_shown by_demo ready.session given DEMO_LIMIT ready.capacity k accepted fit.room p, λ role k p. never (Some ready.capacity) role k p)
      (subst P fit.limit (agrees given (performing.given ready.actors.items))) in
      both_ok r _ _ _ (λ g told there. (performing.told kind ready.actors.items ready.names ready.session.machines ready.capacity x left g.answer told_of told, handed_demo g told there))
