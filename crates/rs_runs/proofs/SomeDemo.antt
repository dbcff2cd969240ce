-- A demo has an answer to each input.
use Rattle.std.proofs.Common.{inl, inr, ℕ, List, length, Option, refl}
use Rattle.rs_answers.specs.Data.{Answer_data}
use Rattle.rs_answers.specs.Refusals.{refusal_answer}
use Rattle.rs_runs.specs.Runs.{capacity_of}
use Rattle.rs_answers.proofs.Derivings.{canonical_safe, session_of}
use Rattle.rs_answers.proofs.SomeSession.{Prepared, NotSo, Derived, prepared}
use Rattle.rs_runs.specs.Demos.{AnswersDemo, HasBadNumbers, IsDocument, AnswersOwn, IsRefused, IsAccepted, bad_numbers}
use Rattle.rs_runs.proofs.DemoEndings.{never_stuck, some_performing}
use Rattle.rs_runs.proofs.Opening.{some_opening}
use Rattle.rs_demos.specs.Starts.{StartsWithActors}
use Rattle.rs_demos.specs.Texts.{document_of}
use Rattle.rs_demos.specs.declared.actors.DemoTalker.{DemoTalker}
use Rattle.rs_model.specs.declared.demos.Demo.{Demo}
use Rattle.rs_demos.proofs.Deciding.{actors_or_none}
use Rattle.rs_documents.specs.Data.{Document_data}
use Rattle.rs_documents.specs.Documents.{SpellsDocument}
use Rattle.rs_documents.proofs.SpeltSessions.{spelt_session}
use Rattle.rs_safety.specs.Room.{room_of}
use Rattle.rs_wellformed.specs.Faults.{first_fault}
use Rattle.rs_model.specs.declared.limits.TheConstants.{DEFAULT_BOUND}

some_own : (kind : Demo) (ring : Option ℕ) (actors : List DemoTalker) (text : List ℕ) (d : Document_data) → SpellsDocument text d → Prepared DEFAULT_BOUND d
    → (a : Answer_data) × AnswersOwn kind ring actors d a
some_own kind ring actors text d doc (NotSo why h) = (refusal_answer d.names why, IsRefused why h refl)
some_own kind ring actors text d doc (Derived ps ms ds h found) =
    let session = session_of d ps ms (spelt_session text d doc) h.projections_are.well_formed h.projections_are.projected h.machines_are h.well_formed in
    let safe = canonical_safe DEFAULT_BOUND d.protocol ps ms ds session found in
    let p = some_performing kind ring actors d.names ms ds safe session.machines_fit (λ enough. never_stuck text d ps ms ds actors (capacity_of ring (room_of ds)) doc h found enough) in
    (p.answer, IsAccepted ps ms ds h found p.performs)

some_played : (kind : Demo) (ring : Option ℕ) (bytes : List ℕ) (actors : List DemoTalker) → StartsWithActors kind bytes actors → (a : Answer_data) × AnswersDemo kind ring bytes a
some_played kind ring bytes actors s =
    let o = some_opening kind bytes actors s in
    let d = document_of kind (length actors) in
    let a = some_own kind ring actors o.text d o.spells (prepared DEFAULT_BOUND o.text d o.spells (first_fault d.protocol) refl) in
    (a.0, IsDocument actors o.text d o.opens o.spells a.1)

pub some_demo : (kind : Demo) (ring : Option ℕ) (bytes : List ℕ) → (a : Answer_data) × AnswersDemo kind ring bytes a
some_demo kind ring bytes = elim (actors_or_none kind bytes) [
  | inl actors ↦ some_played kind ring bytes actors.0 actors.1
  | inr none ↦ (bad_numbers, HasBadNumbers none refl)
]
