-- Public: documents that are accepted, and those that are refused.
use Rattle.std.specs.Prelude.{◌≡◌, ◌⊎◌, ℕ}
use Rattle.rs_documents.specs.Data.{Document_data}
use Rattle.rs_safety.specs.Accepting.{IsAcceptedSession}
use Rattle.rs_answers.specs.Derivations.{AreCanonical}
use Rattle.rs_answers.specs.Refusals.{HasNoDerivations}
use Rattle.rs_answers.specs.Sessions.{HasMachines}
use Rattle.rs_answers.specs.declared.accepting.AcceptedDocument.{AcceptedDocument}
use Rattle.rs_answers.specs.declared.accepting.RefusedDocument.{RefusedDocument}
use Rattle.rs_answers.specs.declared.refusals.Refusal.TheVariants.{NoMemory}

-- the document is accepted within the bound: its own names, and the session of its protocol, with canonical derivations
pub record IsAcceptedDocument (bound : ℕ) (d : Document_data) (accepted : AcceptedDocument) : Type 0 where
  pub names : accepted.names ≡ d.names
  pub protocol : accepted.session.protocol ≡ d.protocol
  pub has : HasMachines d accepted.session.projections accepted.session.machines
  pub canonical : AreCanonical bound accepted.session.machines accepted.session.projections accepted.session.derivations
  pub session : IsAcceptedSession accepted.session

-- the document is refused within the bound, for this reason, unless that is that memory was refused
pub record IsRefusedDocument (bound : ℕ) (d : Document_data) (refused : RefusedDocument) : Type 0 where
  pub names : refused.names ≡ d.names
  pub why : (refused.refusal ≡ NoMemory) ⊎ HasNoDerivations bound d refused.refusal
