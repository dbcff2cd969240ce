-- What the session of a demo leads to.
use Rattle.std.proofs.Common.{◌≡◌, ℕ, ◌<◌, ◌≤◌, List, length, Option, sym, ap, subst, ◌∙◌}
use Rattle.rs_answers.specs.Accepting.{IsAcceptedDocument}
use Rattle.rs_answers.specs.Data.{Answer_data}
use Rattle.rs_runs.specs.Demos.{IsAccepted, IsDocument, IsRefused, IsRun, IsTooSmall, Performs, TellsDemoRun}
use Rattle.rs_runs.specs.DemoSessions.{GivesDemo, WasRunByActors}
use Rattle.rs_runs.specs.Ready.{IsReadyDemo, IsReadyFor, Warrants, NeverStopped}
use Rattle.rs_answers.specs.RefusalTexts.{too_small}
use Rattle.rs_answers.specs.Refusals.{HasNoDerivations, refusal_answer}
use Rattle.rs_runs.specs.Runs.{capacity_of}
use Rattle.rs_answers.specs.declared.accepting.AcceptedDocument.{AcceptedDocument}
use Rattle.rs_runs.specs.declared.answers.AnswerWithSession.{AnswerWithSession}
use Rattle.rs_runs.specs.declared.ready.Prepared.TheVariants as prepared
use Rattle.rs_runs.specs.declared.ready.Ready.{Ready}
use Rattle.rs_answers.specs.declared.refusals.Refusal.{Refusal}
use Rattle.rs_runs.proofs.Leading.{HoldsAlone}
use Rattle.rs_runs.proofs.Opening.{HasOpening, role_each}
use Rattle.rs_runs.proofs.RunSessions.{alone, not_there, refusal_is_alone, still_there}
use Rattle.rs_runs.proofs.Stopping.{never_stopped}
use Rattle.rs_demos.specs.Texts.{document_of}
use Rattle.rs_demos.specs.declared.actors.DemoTalker.{DemoTalker}
use Rattle.rs_documents.specs.Data.{Document_data}
use Rattle.rs_documents.specs.Documents.{SpellsDocument}
use Rattle.rs_model.specs.declared.demos.Demo.{Demo}
use Rattle.rs_model.specs.declared.limits.TheConstants.{DEFAULT_BOUND, MOST_BYTES}
use Rattle.rs_model.specs.declared.runs.Workers.{Workers}
use Rattle.rs_model.specs.Data.{Machine_data, Names_data, Protocol_data}
use Rattle.rs_safety.specs.Accepting.{Accepted_data}
use Rattle.rs_safety.specs.Room.{room_of}

module _ (kind : Demo) (ring : Option ℕ) (bytes : List ℕ) (actors : List DemoTalker) (d : Document_data) (o : HasOpening kind bytes actors) (own : d ≡ document_of kind (length actors)) where
  spells : SpellsDocument o.text d
  spells = subst (λ (z : Document_data). SpellsDocument o.text z) (sym own) o.spells

  -- its document is refused
  pub refused_alone : (why : Refusal) (a : Answer_data) → HasNoDerivations DEFAULT_BOUND d why × (a ≡ refusal_answer d.names why) → HoldsAlone (GivesDemo kind ring bytes) a
  refused_alone why a h given same none = (
    IsDocument actors o.text d o.opens spells (IsRefused why h.0 (same ∙ h.1)),
    not_there _ _ given.closed none (alone given.answer (refusal_answer d.names why) (same ∙ h.1) (refusal_is_alone d.names why)),
  )

  -- its rings are too small
  pub small_alone : (x : AcceptedDocument) (capacity : ℕ) (a : Answer_data) → IsAcceptedDocument DEFAULT_BOUND d x
      → (capacity ≡ capacity_of ring (room_of x.session.derivations)) × (capacity < room_of x.session.derivations)
      → a ≡ too_small capacity (room_of x.session.derivations) → HoldsAlone (GivesDemo kind ring bytes) a
  small_alone x capacity a is small told given same none =
      let room = room_of x.session.derivations in
      let e = same ∙ told ∙ ap (λ (z : ℕ). too_small z room) small.0 in (
        IsDocument actors o.text d o.opens spells (IsAccepted x.session.projections x.session.machines x.session.derivations is.has is.canonical
            (IsTooSmall (subst (λ (z : ℕ). z < room) small.0 small.1) e)),
        not_there _ _ given.closed none (alone given.answer (too_small (capacity_of ring room) room) e (λ h. h)),
      )

  -- there is an actor for each machine
  pub actor_each : (x : AcceptedDocument) → IsAcceptedDocument DEFAULT_BOUND d x → length actors ≡ length x.session.machines
  actor_each x is = role_each kind bytes actors o.text d o.opens spells ∙ ap (λ (p : Protocol_data). p.roles) (sym is.protocol) ∙ sym is.session.is_session.a_machine_each

  -- no role is stopped
  pub unstopped : (x : AcceptedDocument) → IsAcceptedDocument DEFAULT_BOUND d x → length bytes ≤ MOST_BYTES → NeverStopped actors x.session.machines
  unstopped x is few capacity role end = never_stopped kind bytes actors o.text d x.session.projections x.session.machines capacity role end few o.opens spells is.has

  -- it is ready to be run
  pub demo_leads : (workers : Workers) (x : AcceptedDocument) (ready : Ready DemoTalker) → IsAcceptedDocument DEFAULT_BOUND d x → ready.actors.items ≡ actors → ready.names ≡ x.names
      → ready.session ≡ x.session
      → ready.capacity ≡ capacity_of ring (room_of x.session.derivations) → IsReadyDemo ready → (IsReadyDemo ready → IsReadyFor workers (prepared.Demo kind ready))
      → Warrants workers (prepared.Demo kind ready) (GivesDemo kind ring bytes)
  demo_leads workers x ready is acting names session capacity fit by = record {
    ready = by fit;
    given = λ g comes. (
      IsDocument actors o.text d o.opens spells (IsAccepted x.session.projections x.session.machines x.session.derivations is.has is.canonical (performs g comes.0)),
      still_there _ _ _ _ g.closed (λ h. h) (λ h. h) (λ closed run. record {
        actors = actors;
        text = o.text;
        document = d;
        opens = o.opens;
        spells = spells;
        run = record { projections = x.session.projections; machines = x.session.machines; has = is.has; run = asked (λ n xs ms c. WasRunByActors kind xs n ms g.answer closed) run };
      }) comes.1,
    );
  }
    where
      asked : (T : Names_data → List DemoTalker → List Machine_data → ℕ → Type 0) → T ready.names ready.actors.items ready.session.machines ready.capacity
          → T d.names actors x.session.machines (capacity_of ring (room_of x.session.derivations))
      asked T h =
          subst (λ (z : ℕ). T d.names actors x.session.machines z) capacity
          (subst (λ (z : List Machine_data). T d.names actors z ready.capacity) (ap (λ (z : Accepted_data). z.machines) session)
          (subst (λ (z : List DemoTalker). T d.names z ready.session.machines ready.capacity) acting
          (subst (λ (z : Names_data). T z ready.actors.items ready.session.machines ready.capacity) (names ∙ is.names) h)))

      enough : room_of x.session.derivations ≤ capacity_of ring (room_of x.session.derivations)
      enough = subst (λ (z : ℕ). room_of x.session.derivations ≤ z) capacity (subst (λ (z : Accepted_data). room_of z.derivations ≤ ready.capacity) session fit.room)

      performs : (g : AnswerWithSession) → TellsDemoRun kind ready.actors.items ready.names ready.session.machines ready.capacity g.answer
          → Performs kind ring actors d.names x.session.machines x.session.derivations g.answer
      performs g tells = IsRun enough (asked (λ n xs ms c. TellsDemoRun kind xs n ms c g.answer) tells)
