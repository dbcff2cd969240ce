-- Steps: what is known while a role is improved.
use Rattle.std.specs.Prelude.{◌≡◌, ℕ, List, None, slice_get, Some}
use Rattle.rs_derive.specs.Data.{Derivation_data}
use Rattle.rs_documents.specs.Data.{Document_data}
use Rattle.rs_derive.specs.Derivations.{IsProper}
use Rattle.rs_improve.specs.Data.{Improved_data}
use Rattle.rs_improve.specs.Improved.{RefusesToImprove}
use Rattle.rs_improve.specs.declared.improving.ImproveFault.TheVariants.{TooLarge}
use Rattle.rs_project.specs.Data.{Projection_data}
use Rattle.rs_model.specs.Limits.{IsBound}
use Rattle.rs_answers.specs.Data.{Answer_data}
use Rattle.rs_answers.specs.Derivations.{AreCanonical}
use Rattle.rs_answers.specs.Improves.{IsImprovedSession, ShowsBehind, improved_document, swaps_line}
use Rattle.rs_answers.specs.Sessions.{HasMachines}
use Rattle.rs_answers.specs.declared.derivations.DerivedSession.{DerivedSession}

-- the document, in which the role with the place has no machine, has this session, with the derivations that are found within the bound
pub record IsSessionWithout (bound : ℕ) (d : Document_data) (place : ℕ) (session : DerivedSession) : Type 0 where
  pub none : slice_get d.machines place ≡ Some None
  pub within : IsBound bound
  pub has : HasMachines d session.projections.items session.machines.items
  pub canonical : AreCanonical bound session.machines.items session.projections.items session.derivations.items

-- the improved machine of the role is reported, and shown in the document
pub record TellsImproved (role : List ℕ) (bound asked : ℕ) (d : Document_data) (place : ℕ) (derivations : List Derivation_data) (answer : Answer_data) : Type 0 where
  pub improved : Improved_data
  pub session : IsImprovedSession bound asked d place derivations improved
  pub shows : ShowsBehind (swaps_line role improved) (improved_document d place derivations improved) answer

-- what is asked of a projection: its machine is well formed, and there aren't too many candidates for a derivation of it from itself
pub record CanBeImproved (bound : ℕ) (projection : Projection_data) : Type 0 where
  pub proper : IsProper projection.machine
  pub few : RefusesToImprove projection.machine bound TooLarge → ⊥
