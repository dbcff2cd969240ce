-- Public: documents that are accepted by their own derivations, and those that aren't.
use Rattle.std.specs.Prelude.{◌≡◌, ◌⊎◌, List, Option, Some}
use Rattle.rs_derive.specs.Data.{Derivation_data}
use Rattle.rs_documents.specs.Data.{Document_data}
use Rattle.rs_model.specs.Data.{Machine_data}
use Rattle.rs_project.specs.Data.{Projection_data}
use Rattle.rs_safety.specs.Accepting.{IsAcceptedSession}
use Rattle.rs_answers.specs.Verifying.{IsUnverified, IsVerified, RoleBlame, first_blame, those_there}
use Rattle.rs_answers.specs.declared.accepting.AcceptedDocument.{AcceptedDocument}
use Rattle.rs_answers.specs.declared.accepting.RefusedDocument.{RefusedDocument}
use Rattle.rs_answers.specs.declared.refusals.Refusal.{Refusal}
use Rattle.rs_answers.specs.declared.refusals.Refusal.TheVariants.{Blamed, NoMemory}

-- the first role whose own derivation doesn't show it is blamed, unless memory was refused
abbrev pub BlamesFirst : List (Option Derivation_data) → List Machine_data → List Projection_data → Refusal → Type 0
BlamesFirst own machines projections why = (why ≡ NoMemory) ⊎ ((b : RoleBlame) × (first_blame 0 own machines projections ≡ Some b) × (why ≡ Blamed b.role b.blame))

-- the document is accepted by its own derivations: its own names, and the session of its protocol, with these derivations
pub record IsVerifiedDocument (d : Document_data) (accepted : AcceptedDocument) : Type 0 where
  pub names : accepted.names ≡ d.names
  pub protocol : accepted.session.protocol ≡ d.protocol
  pub derivations : accepted.session.derivations ≡ those_there d.derivations
  pub verified : IsVerified d accepted.session.projections accepted.session.machines
  pub session : IsAcceptedSession accepted.session

-- the document is refused for this reason, unless that is that memory was refused
pub record IsUnverifiedDocument (d : Document_data) (refused : RefusedDocument) : Type 0 where
  pub names : refused.names ≡ d.names
  pub why : (refused.refusal ≡ NoMemory) ⊎ IsUnverified d refused.refusal
