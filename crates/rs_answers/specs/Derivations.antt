-- Public: the derivations of a session: those that the search finds for its machines.
use Rattle.std.specs.Prelude.{◌≡◌, ◌≢◌, ℕ, List, Some, length, slice_get}
use Rattle.rs_derive.specs.Data.{Derivation_data}
use Rattle.rs_model.specs.Data.{Machine_data}
use Rattle.rs_model.specs.declared.graph.Role.{Role}
use Rattle.rs_project.specs.Data.{Projection_data}
use Rattle.rs_search.specs.Canonical.{IsCanonical, SearchRefuses}
use Rattle.rs_search.specs.declared.faults.SearchFault.{SearchFault}
use Rattle.rs_search.specs.declared.faults.SearchFault.TheVariants as search

-- the canonical derivations within the bound of the first n roles' machines from their projections, in role order
pub record AreFirstCanonical (bound : ℕ) (machines : List Machine_data) (projections : List Projection_data) (count : ℕ) (derivations : List Derivation_data) : Type 0 where
  pub many : length derivations ≡ count
  pub each : (p : ℕ) (m : Machine_data) (j : Projection_data) (d : Derivation_data) → slice_get machines p ≡ Some m → slice_get projections p ≡ Some j
      → slice_get derivations p ≡ Some d → IsCanonical m j.machine bound d

-- the canonical derivations within the bound of all roles' machines, in role order
abbrev pub AreCanonical : ℕ → List Machine_data → List Projection_data → List Derivation_data → Type 0
AreCanonical bound machines projections derivations = AreFirstCanonical bound machines projections (length machines) derivations

-- the first role for whose machine there is no canonical derivation within the bound, and why
pub record IsUnderivable (bound : ℕ) (machines : List Machine_data) (projections : List Projection_data) (role : Role) (fault : SearchFault) : Type 0 where
  pub machine : Machine_data
  pub projection : Projection_data
  pub runs : slice_get machines role.0 ≡ Some machine
  pub projects : slice_get projections role.0 ≡ Some projection
  pub earlier : List Derivation_data
  pub derived : AreFirstCanonical bound machines projections role.0 earlier
  pub refused : SearchRefuses machine projection.machine bound fault
  pub cause : fault ≢ search.NoMemory
