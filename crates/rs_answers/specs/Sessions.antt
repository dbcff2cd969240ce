-- Public: the session of a document: its projections and its machines.
use Rattle.std.specs.Prelude.{◌≡◌, ℕ, ◌<◌, List, [], ◌∷◌, Option, Some, None}
use Rattle.rs_model.specs.Data.{Machine_data, Protocol_data}
use Rattle.rs_model.specs.Faults.{first_fault}
use Rattle.rs_model.specs.declared.checks.MachineFault.{MachineFault}
use Rattle.rs_model.specs.declared.graph.Role.{Role}
use Rattle.rs_project.specs.Data.{Projection_data}
use Rattle.rs_project.specs.Numbered.{AreFirstProjections, AreNumberedProjections}
use Rattle.rs_project.specs.Refusals.{FirstRefusal}
use Rattle.rs_project.specs.declared.projecting.ProjFault.{ProjFault}
use Rattle.rs_wellformed.specs.Faults as of_protocols
use Rattle.rs_documents.specs.Data.{Document_data}
pub use Rattle.rs_answers.specs.Machines.{machine_or, machines_of}

-- the first role onto which the protocol has no projection, and the first reason
pub record IsUnprojectable (protocol : Protocol_data) (role : Role) (fault : ProjFault) : Type 0 where
  pub known : role.0 < protocol.roles
  pub earlier : List Projection_data
  pub projected : AreFirstProjections protocol role.0 earlier
  pub refused : FirstRefusal protocol role fault

-- the first role onto which the protocol has no projection, whichever it is, and the first reason
abbrev pub Refuses : Protocol_data → ProjFault → Type 0
Refuses protocol fault = (role : Role) × IsUnprojectable protocol role fault

-- the protocol is well formed, and these are its projections
pub record HasProjections (d : Document_data) (projections : List Projection_data) : Type 0 where
  pub well_formed : of_protocols.first_fault d.protocol ≡ None
  pub projected : AreNumberedProjections d.protocol projections

-- the first machine of the first n roles that isn't well formed: its role and its first fault
pub record MachineRefusal : Type 0 where
  pub role : Role
  pub fault : MachineFault

-- the role with its fault, where it has one, else what is said of later machines
abbrev pub refusal_or : Option MachineFault → Role → Option MachineRefusal → Option MachineRefusal
refusal_or (Some fault) role later = Some (record { role = role; fault = fault })
refusal_or None role later = later

-- the first of these machines of the first n roles that isn't well formed
abbrev pub first_refusal : ℕ → List Machine_data → Option MachineRefusal
first_refusal roles [] = None
first_refusal roles (machine ∷ machines) = refusal_or (first_fault machine roles) machine.role (first_refusal roles machines)

-- these are the document's projections, and its machines are well formed
pub record HasMachines (d : Document_data) (projections : List Projection_data) (machines : List Machine_data) : Type 0 where
  pub projections_are : HasProjections d projections
  pub machines_are : machines ≡ machines_of d.machines projections
  pub well_formed : first_refusal d.protocol.roles machines ≡ None
