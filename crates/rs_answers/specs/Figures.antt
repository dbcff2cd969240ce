-- Steps: the figures of the derivations that the search finds for a session.
use Rattle.std.specs.Prelude.{◌≡◌, ℕ, List, length, map}
use Rattle.rs_derive.specs.Data.{Derivation_data}
use Rattle.rs_documents.specs.Data.{Document_data}
use Rattle.rs_model.specs.Data.{Machine_data}
use Rattle.rs_project.specs.Data.{Projection_data}
use Rattle.rs_safety.specs.Figures.{figures_of}
use Rattle.rs_safety.specs.declared.rooms.Figures.{Figures}
use Rattle.rs_search.specs.Canonical.{IsCanonical}
use Rattle.rs_answers.specs.Derivations.{AreFirstCanonical}
use Rattle.rs_answers.specs.Sessions.{HasMachines}

-- the figures of the canonical derivation within the bound of a machine from its projection
pub record HasFigures (sub above : Machine_data) (bound : ℕ) (figures : Figures) : Type 0 where
  pub derivation : Derivation_data
  pub canonical : IsCanonical sub above bound derivation
  pub are : figures ≡ figures_of derivation

-- those of the first n roles' machines, in role order
pub record AreFirstFigures (bound : ℕ) (machines : List Machine_data) (projections : List Projection_data) (count : ℕ) (figures : List Figures) : Type 0 where
  pub derivations : List Derivation_data
  pub canonical : AreFirstCanonical bound machines projections count derivations
  pub are : figures ≡ map figures_of derivations

-- those of all roles' machines, in role order
abbrev pub AreFigures : ℕ → List Machine_data → List Projection_data → List Figures → Type 0
AreFigures bound machines projections figures = AreFirstFigures bound machines projections (length machines) figures

-- the document has a session, and these are the figures of its derivations within the bound
pub record HasSessionFigures (bound : ℕ) (d : Document_data) (figures : List Figures) : Type 0 where
  pub projections : List Projection_data
  pub machines : List Machine_data
  pub has : HasMachines d projections machines
  pub figures_are : AreFigures bound machines projections figures
