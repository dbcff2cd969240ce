-- No demo is stopped at its limit.
use Rattle.std.proofs.Common.{◌≡◌, ℕ, ◌≤◌, List, length, Option, subst, arith}
use Rattle.rs_answers.specs.Sessions.{HasMachines}
use Rattle.rs_core.specs.Plain.{Moment, Stopped, IsPlain}
use Rattle.rs_runs.specs.Demos.{Opens, actor_at}
use Rattle.rs_runs.specs.declared.limits.TheConstants.{DEMO_LIMIT}
use Rattle.rs_runs.proofs.Computing.{demo_machines_shown}
use Rattle.rs_runs.proofs.Opening.{has_session_for}
use Rattle.rs_runs.proofs.Performing.{given}
use Rattle.rs_demos.specs.Acting.{by_demo}
use Rattle.rs_demos.specs.Texts.{document_of}
use Rattle.rs_demos.specs.declared.actors.DemoTalker.{DemoTalker}
use Rattle.rs_demos.proofs.FewActs.{low_limit}
use Rattle.rs_demos.proofs.SpeltDocuments.{spelt_document}
use Rattle.rs_documents.specs.Data.{Document_data}
use Rattle.rs_documents.specs.Documents.{SpellsDocument}
use Rattle.rs_documents.proofs.OneDocument.{one_document}
use Rattle.rs_model.specs.Data.{Machine_data}
use Rattle.rs_model.specs.declared.limits.TheConstants.{MOST_BYTES}
use Rattle.rs_model.specs.declared.demos.Demo.{Demo}
use Rattle.rs_project.specs.Data.{Projection_data}

pub never_stopped : (kind : Demo) (bytes : List ℕ) (actors : List DemoTalker) (text : List ℕ) (d : Document_data) (ps : List Projection_data) (ms : List Machine_data) (capacity : Option ℕ) (role : ℕ)
    (end : Moment DemoTalker)
    → length bytes ≤ MOST_BYTES → Opens kind bytes actors text → SpellsDocument text d → HasMachines d ps ms → IsPlain ms by_demo (actor_at actors) DEMO_LIMIT capacity (Stopped role end) → ⊥
never_stopped kind bytes actors text d ps ms capacity role end few o doc h plain =
    let s = has_session_for kind bytes actors o.starts in
    let same : d ≡ document_of kind (length actors) = one_document text d (document_of kind (length actors)) doc (spelt_document kind (length actors) text s.has o.document) in
    let P : Document_data → Type 0 = λ z. HasMachines z ps ms in
    let own = demo_machines_shown kind (length actors) ps ms s.has s.roles (subst P same h) in
    let Q : List Machine_data → Type 0 = λ z. IsPlain z by_demo (actor_at actors) DEMO_LIMIT capacity (Stopped role end) in
    let low = low_limit kind bytes actors (actor_at actors) DEMO_LIMIT capacity role end few o.starts (given actors) (subst Q own plain) in
    omega (arith, low)
