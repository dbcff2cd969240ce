-- Public: what is asked of a session with derivations.
use Rattle.std.specs.Prelude.{◌≡◌, ℕ, ◌<◌, ◌≤◌, ◌^◌, List, Some, slice_get, length}
use Rattle.rs_model.specs.Data.{Machine_data, Protocol_data}
use Rattle.rs_model.specs.declared.limits.TheConstants.{MOST_BOUND, MOST_ROLES}
use Rattle.rs_core.specs.Choices.{AreWellFormed}
use Rattle.rs_wellformed.specs.WellFormed.{IsWellFormed}
use Rattle.rs_project.specs.Data.{Projection_data}
use Rattle.rs_project.specs.Numbered.{AreNumberedProjections}
use Rattle.rs_project.specs.Projection.{AreProjections}
use Rattle.rs_derive.specs.Data.{Derivation_data}
use Rattle.rs_derive.specs.Derivations.{IsDerivation, Remembers}

-- each role's derivation shows that its machine may stand for its projection, and forgets nothing owed
pub record AreDerivations (machines : List Machine_data) (projections : List Projection_data) (derivations : List Derivation_data) : Type 0 where
  pub many : length derivations ≡ length machines
  pub each : (p : ℕ) (m : Machine_data) (j : Projection_data) (d : Derivation_data) → slice_get machines p ≡ Some m
      → slice_get projections p ≡ Some j → slice_get derivations p ≡ Some d → IsDerivation d m j.machine × Remembers d m j.machine

-- a well-formed protocol of 2 to 16 roles with its projections, and for each role, in role order, a well-formed machine
pub record IsSession (protocol : Protocol_data) (projections : List Projection_data) (machines : List Machine_data) : Type 0 where
  pub well_formed : IsWellFormed protocol
  pub roles : (2 ≤ protocol.roles) × (protocol.roles ≤ MOST_ROLES)
  pub projected : AreNumberedProjections protocol projections
  pub a_machine_each : length machines ≡ protocol.roles
  pub machines_fit : AreWellFormed machines

-- what is to be a derivation for each of the first n roles, in role order: each has a bound from 1 to 64 and fewer than 2^32
-- nodes
pub record AreOneEach (roles : ℕ) (derivations : List Derivation_data) : Type 0 where
  pub many : length derivations ≡ roles
  pub role : (p : ℕ) (d : Derivation_data) → slice_get derivations p ≡ Some d → d.role.0 ≡ p
  pub bound : (p : ℕ) (d : Derivation_data) → slice_get derivations p ≡ Some d → (1 ≤ d.bound) × (d.bound ≤ MOST_BOUND)
  pub bounded : (p : ℕ) (d : Derivation_data) → slice_get derivations p ≡ Some d → length d.nodes < 2 ^ 32

-- a well-formed protocol with its projections, and for each role, in role order, a well-formed machine with a derivation
-- that forgets nothing owed
pub record IsDerivedSession (protocol : Protocol_data) (projections : List Projection_data) (machines : List Machine_data) (derivations : List Derivation_data) : Type 0 where
  pub well_formed : IsWellFormed protocol
  pub projected : AreProjections protocol projections
  pub a_machine_each : length machines ≡ protocol.roles
  pub machines_fit : AreWellFormed machines
  pub derived : AreDerivations machines projections derivations
