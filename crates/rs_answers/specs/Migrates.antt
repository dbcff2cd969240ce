-- Public: what `migrate` answers to a document.
use Rattle.std.specs.Prelude.{◌≡◌, List}
use Rattle.rs_documents.specs.Data.{Document_data}
use Rattle.rs_model.specs.Data.{Machine_data}
use Rattle.rs_project.specs.Data.{Projection_data}
use Rattle.rs_answers.specs.Data.{Answer_data}
use Rattle.rs_answers.specs.Refusals.{refusal_answer}
use Rattle.rs_answers.specs.Shown.{Shows}
use Rattle.rs_answers.specs.Verifying.{IsUnverified, IsVerified}
use Rattle.rs_answers.specs.declared.refusals.Refusal.{Refusal}

-- one of these applies
pub data Migrates (d : Document_data) (answer : Answer_data) : Type 0 where
  -- the document is refused, as `verify` refuses it
  IsRefused : (refusal : Refusal) → IsUnverified d refusal → answer ≡ refusal_answer d.names refusal → Migrates d answer
  -- its session is accepted, and it is shown with its own derivations
  IsMigrated : (projections : List Projection_data) (machines : List Machine_data) → IsVerified d projections machines → Shows d answer → Migrates d answer
