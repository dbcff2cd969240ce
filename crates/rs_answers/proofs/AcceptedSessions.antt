-- A session with canonical derivations is accepted.
use Rattle.std.proofs.Common.{ℕ, List}
use Rattle.rs_answers.specs.Derivations.{AreCanonical}
use Rattle.rs_model.specs.Limits.{IsBound}
use Rattle.rs_answers.specs.Sessions.{HasMachines}
use Rattle.rs_answers.proofs.Derivings.{canonical_safe, derivations_are, one_each, session_of}
use Rattle.rs_derive.specs.Data.{Derivation_data}
use Rattle.rs_documents.specs.Data.{Document_data}
use Rattle.rs_documents.specs.Documents.{SpellsDocument}
use Rattle.rs_documents.proofs.SpeltSessions.{spelt_session}
use Rattle.rs_model.specs.Data.{Machine_data}
use Rattle.rs_project.specs.Data.{Projection_data}
use Rattle.rs_safety.specs.Accepting.{IsAcceptedSession}

pub is_accepted : (bound : ℕ) (bytes : List ℕ) (d : Document_data) (ps : List Projection_data) (ms : List Machine_data) (ds : List Derivation_data) → IsBound bound → SpellsDocument bytes d
    → HasMachines d ps ms → AreCanonical bound ms ps ds
    → IsAcceptedSession (record { protocol = d.protocol; projections = ps; derivations = ds; machines = ms })
is_accepted bound bytes d ps ms ds within doc h f =
    let session = session_of d ps ms (spelt_session bytes d doc) h.projections_are.well_formed h.projections_are.projected h.machines_are h.well_formed in
    record {
      is_session = session;
      one_each = one_each bound within d.protocol ps ms ds session f;
      derived = derivations_are bound d.protocol ps ms ds session f;
      safe = canonical_safe bound d.protocol ps ms ds session f;
    }
