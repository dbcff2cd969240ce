-- What the session of a document leads to, by actors that draw what they send.
use Rattle.std.proofs.Common.{◌≡◌, ℕ, ◌<◌, ◌≤◌, refl, ap, subst, ◌∙◌}
use Rattle.rs_answers.specs.Accepting.{IsAcceptedDocument}
use Rattle.rs_answers.specs.Data.{Answer_data}
use Rattle.rs_answers.specs.Derivations.{AreCanonical}
use Rattle.rs_runs.specs.Pools as pools
use Rattle.rs_runs.specs.Pools.{IsRunTogether, IsTooSmall, RunsWith, TellsPool}
use Rattle.rs_runs.specs.Ready.{ComesOf, HasActorEach, HasRoomForAll, IsReadyFor, Warrants}
use Rattle.rs_answers.specs.RefusalTexts.{too_small}
use Rattle.rs_answers.specs.Refusals.{HasNoDerivations, refusal_answer}
use Rattle.rs_runs.specs.RunSessions.{GivesRun, WasRunByDraws}
use Rattle.rs_runs.specs.Runs as runs
use Rattle.rs_runs.specs.Runs.{TellsRun, actor_of, capacity_of}
use Rattle.rs_answers.specs.Sessions.{HasMachines}
use Rattle.rs_answers.specs.declared.accepting.AcceptedDocument.{AcceptedDocument}
use Rattle.rs_runs.specs.declared.answers.AnswerWithSession.{AnswerWithSession}
use Rattle.rs_runs.specs.declared.ready.Prepared.TheVariants.{Run}
use Rattle.rs_runs.specs.declared.ready.Ready.{Ready}
use Rattle.rs_answers.specs.declared.refusals.Refusal.{Refusal}
use Rattle.rs_runs.proofs.Leading.{HoldsAlone}
use Rattle.rs_runs.proofs.RunSessions.{alone, not_there, refusal_is_alone, still_there}
use Rattle.rs_core.specs.Runs.{IsGiven}
use Rattle.rs_documents.specs.Data.{Document_data}
use Rattle.rs_model.specs.Data.{Names_data}
use Rattle.rs_model.specs.declared.runs.RunOptions.{RunOptions}
use Rattle.rs_model.specs.declared.runs.Workers.{Workers}
use Rattle.rs_model.specs.declared.runs.Workers.TheVariants.{One, Several}
use Rattle.rs_safety.specs.Room.{room_of}

-- the session is that of the document, with what the options ask for
pub record IsReadyRun (options : RunOptions) (d : Document_data) (ready : Ready ℕ) : Type 0 where
  pub names : ready.names ≡ d.names
  pub has : HasMachines d ready.session.projections ready.session.machines
  pub canonical : AreCanonical options.bound ready.session.machines ready.session.projections ready.session.derivations
  pub given : IsGiven (actor_of options.seed) ready.actors.items
  pub capacity : ready.capacity ≡ capacity_of options.ring (room_of ready.session.derivations)
  pub limit : ready.limit ≡ options.limit

-- it is ready to be run by these workers where several of them have rings that are large enough
pub ready_for : (workers : Workers) (ready : Ready ℕ) → HasActorEach ready → ((crew : ℕ) → workers ≡ Several crew → HasRoomForAll ready) → IsReadyFor workers (Run ready)
ready_for One ready each room = each
ready_for (Several n) ready each room = (each, room n refl)

module _ (options : RunOptions) (d : Document_data) where
  refused : (workers : Workers) (why : Refusal) (a : Answer_data) → HasNoDerivations options.bound d why → a ≡ refusal_answer d.names why → RunsWith workers options d a
  refused One why a h is = runs.IsRefused why h is
  refused (Several n) why a h is = pools.IsRefused why h is

  pub refused_alone : (workers : Workers) (why : Refusal) (a : Answer_data) → HasNoDerivations options.bound d why × (a ≡ refusal_answer d.names why) → HoldsAlone (GivesRun workers options d) a
  refused_alone workers why a h given same none = (
    refused workers why given.answer h.0 (same ∙ h.1),
    not_there _ _ given.closed none (alone given.answer (refusal_answer d.names why) (same ∙ h.1) (refusal_is_alone d.names why)),
  )

  pub small_alone : (n : ℕ) (x : AcceptedDocument) (capacity : ℕ) (a : Answer_data) → IsAcceptedDocument options.bound d x
      → (capacity ≡ capacity_of options.ring (room_of x.session.derivations)) × (capacity < room_of x.session.derivations)
      → a ≡ too_small capacity (room_of x.session.derivations) → HoldsAlone (GivesRun (Several n) options d) a
  small_alone n x capacity a is small told given same none =
      let room = room_of x.session.derivations in
      let e = same ∙ told ∙ ap (λ (z : ℕ). too_small z room) small.0 in (
        pools.IsAccepted x.session.projections x.session.machines x.session.derivations is.has is.canonical (IsTooSmall (subst (λ (z : ℕ). z < room) small.0 small.1) e),
        not_there _ _ given.closed none (alone given.answer (too_small (capacity_of options.ring room) room) e (λ h. h)),
      )

  module _ (ready : Ready ℕ) (is : IsReadyRun options d ready) where
    -- what is told with the names, the limit and the capacity that are ready is told with those that are asked for
    asked : (T : Names_data → ℕ → ℕ → Type 0) → T ready.names ready.limit ready.capacity → T d.names options.limit (capacity_of options.ring (room_of ready.session.derivations))
    asked T h =
        subst (λ (z : ℕ). T d.names options.limit z) is.capacity (subst (λ (z : ℕ). T d.names z ready.capacity) is.limit (subst (λ (z : Names_data). T z ready.limit ready.capacity) is.names h))

    answers : (workers : Workers) (g : AnswerWithSession) → IsReadyFor workers (Run ready) → ComesOf workers (Run ready) g → RunsWith workers options d g.answer
    answers One g fit comes =
        runs.IsRun ready.session.projections ready.session.machines ready.session.derivations is.has is.canonical
        (asked (λ n l c. TellsRun n ready.session.machines (actor_of options.seed) l c g.answer) (comes (actor_of options.seed) is.given).0)
    answers (Several n) g fit comes =
        pools.IsAccepted ready.session.projections ready.session.machines ready.session.derivations is.has is.canonical
        (IsRunTogether (subst (λ (z : ℕ). room_of ready.session.derivations ≤ z) is.capacity fit.1)
        (asked (λ n l c. TellsPool n ready.session.machines (actor_of options.seed) l g.answer) (comes (actor_of options.seed) is.given).0))

    pub run_leads : (workers : Workers) → IsReadyFor workers (Run ready) → Warrants workers (Run ready) (GivesRun workers options d)
    run_leads workers fit = record {
      ready = fit;
      given = λ g comes. (
        answers workers g fit comes,
        still_there _ _ _ _ g.closed (λ h. h) (λ h. h) (λ closed run. record {
          projections = ready.session.projections;
          machines = ready.session.machines;
          has = is.has;
          run = asked (λ n l c. WasRunByDraws n ready.session.machines (actor_of options.seed) l g.answer closed) run;
        }) (comes (actor_of options.seed) is.given).1,
      );
    }
