-- Public: what `check` answers to a document.
use Rattle.std.specs.Prelude.{◌≡◌, ℕ, List, Bool, true, false, map, Some}
use Rattle.rs_model.specs.Data.{Machine_data}
use Rattle.rs_project.specs.Data.{Projection_data}
use Rattle.rs_derive.specs.Data.{Derivation_data}
use Rattle.rs_documents.specs.Data.{Document_data}
use Rattle.rs_answers.specs.Data.{Answer_data}
use Rattle.rs_answers.specs.Derivations.{AreCanonical}
use Rattle.rs_answers.specs.Refusals.{HasNoDerivations, refusal_answer}
use Rattle.rs_answers.specs.Report.{report}
use Rattle.rs_answers.specs.Sessions.{HasMachines}
use Rattle.rs_answers.specs.Shown.{Shows}
use Rattle.rs_answers.specs.declared.refusals.Refusal.{Refusal}

-- the document with these derivations, one for each role in order, in place of its own
abbrev pub with_derivations : Document_data → List Derivation_data → Document_data
with_derivations d derivations = record d { derivations = map Some derivations }

-- what is printed of an accepted session: the report of the derivations that were found; or, if they are asked for, the
-- document with them
abbrev pub TellsAccepted : Bool → Document_data → List Derivation_data → Answer_data → Type 0
TellsAccepted false d derivations answer = answer ≡ report d.names.roles derivations
TellsAccepted true d derivations answer = Shows (with_derivations d derivations) answer

-- where derivations are searched within the bound, and asked for or not: one of these applies
pub data Checks (bound : ℕ) (asked : Bool) (d : Document_data) (answer : Answer_data) : Type 0 where
  -- the document is refused
  IsRefused : (refusal : Refusal) → HasNoDerivations bound d refusal → answer ≡ refusal_answer d.names refusal → Checks bound asked d answer
  -- its session is accepted
  IsAccepted : (projections : List Projection_data) (machines : List Machine_data) (derivations : List Derivation_data) → HasMachines d projections machines
      → AreCanonical bound machines projections derivations → TellsAccepted asked d derivations answer → Checks bound asked d answer
