-- Public: what is seen of an accepted session, and why one isn't accepted.
use Rattle.std.specs.Prelude.{◌≡◌, ℕ, ◌<◌, List, Some, slice_get}
use Rattle.rs_core.specs.Safety.{IsSafe}
use Rattle.rs_derive.specs.Data.{Derivation_data}
use Rattle.rs_derive.specs.Derivations.{IsDerivation, Remembers}
use Rattle.rs_derive.specs.Faults.{first_fault}
use Rattle.rs_derive.specs.declared.faults.DeriveFault.{DeriveFault}
use Rattle.rs_model.specs.Data.{Machine_data, Protocol_data}
use Rattle.rs_model.specs.declared.graph.Role.{Role}
use Rattle.rs_project.specs.Data.{Projection_data}
use Rattle.rs_safety.specs.Sessions.{AreDerivations, AreOneEach, IsSession}

-- the protocol, its projections, a derivation and a machine for each role, in role order
pub record Accepted_data : Type 0 where
  pub protocol : Protocol_data
  pub projections : List Projection_data
  pub derivations : List Derivation_data
  pub machines : List Machine_data

-- all that is known of an accepted session: each role's derivation shows that its machine may stand for its projection,
-- and so the machines are safe
pub record IsAcceptedSession (session : Accepted_data) : Type 0 where
  pub is_session : IsSession session.protocol session.projections session.machines
  pub one_each : AreOneEach session.protocol.roles session.derivations
  pub derived : AreDerivations session.machines session.projections session.derivations
  pub safe : IsSafe session.machines

-- the derivation at the place is refused, with its first fault, and all earlier ones are derivations that remember
pub record FirstRefused (machines : List Machine_data) (projections : List Projection_data) (derivations : List Derivation_data) (place : ℕ) (cause : DeriveFault) : Type 0 where
  pub machine : Machine_data
  pub projection : Projection_data
  pub derivation : Derivation_data
  pub runs : slice_get machines place ≡ Some machine
  pub projects : slice_get projections place ≡ Some projection
  pub derives : slice_get derivations place ≡ Some derivation
  pub fault : first_fault derivation machine projection.machine ≡ Some cause
  pub earlier : (p : ℕ) (m : Machine_data) (j : Projection_data) (d : Derivation_data) → p < place → slice_get machines p ≡ Some m
      → slice_get projections p ≡ Some j → slice_get derivations p ≡ Some d → IsDerivation d m j.machine × Remembers d m j.machine

-- the role that was refused and why, and all that was handed in
pub record AcceptRefused_data : Type 0 where
  pub role : Role
  pub cause : DeriveFault
  pub protocol : Protocol_data
  pub projections : List Projection_data
  pub machines : List Machine_data
  pub derivations : List Derivation_data

-- a refusal hands back this protocol, and these projections, machines and derivations
pub record HandsBack (protocol : Protocol_data) (projections : List Projection_data) (machines : List Machine_data) (derivations : List Derivation_data) (refused : AcceptRefused_data) : Type 0 where
  pub same_protocol : refused.protocol ≡ protocol
  pub same_projections : refused.projections ≡ projections
  pub same_machines : refused.machines ≡ machines
  pub same_derivations : refused.derivations ≡ derivations
