-- Public: why a document is refused, by the first reason that applies, and what is answered.
use Rattle.std.specs.Prelude.{◌≡◌, ℕ, List, [], Some, None}
use Rattle.rs_model.specs.Data.{Machine_data, Names_data}
use Rattle.rs_model.specs.declared.graph.Role.{Role}
use Rattle.rs_project.specs.Data.{Projection_data}
use Rattle.rs_project.specs.declared.projecting.ProjFault.{ProjFault}
use Rattle.rs_project.specs.declared.projecting.ProjFault.TheVariants as proj
use Rattle.rs_search.specs.declared.faults.SearchFault.{SearchFault}
use Rattle.rs_search.specs.declared.faults.SearchFault.TheVariants as search
use Rattle.rs_wellformed.specs.Faults.{first_fault}
use Rattle.rs_wellformed.specs.declared.checks.WfFault.{WfFault}
use Rattle.rs_documents.specs.Data.{Document_data}
use Rattle.rs_answers.specs.Data.{Answer_data}
use Rattle.rs_answers.specs.Derivations.{IsUnderivable}
use Rattle.rs_answers.specs.RefusalTexts.{wf_answer, proj_answer, machine_answer, search_answer, blame_answer, refused_answer}
use Rattle.rs_answers.specs.Sessions.{HasMachines, HasProjections, IsUnprojectable, MachineRefusal, first_refusal, machines_of}
use Rattle.rs_answers.specs.declared.refusals.Refusal.{Refusal}
use Rattle.rs_answers.specs.declared.refusals.Refusal.TheVariants as refusal

-- why the document has no session: the first of these that applies
pub data HasNoSession (d : Document_data) : Refusal → Type 0 where
  -- the protocol isn't well formed
  IsIllFormed : (fault : WfFault) → first_fault d.protocol ≡ Some fault → HasNoSession d (refusal.IllFormed fault)
  -- it has no projection onto some role
  HasNoProjection : first_fault d.protocol ≡ None → (role : Role) (fault : ProjFault) → IsUnprojectable d.protocol role fault
      → HasNoSession d (refusal.Unprojectable fault)
  -- some machine isn't well formed
  HasIllMachine : (projections : List Projection_data) → HasProjections d projections
      → (ill : MachineRefusal) → first_refusal d.protocol.roles (machines_of d.machines projections) ≡ Some ill
      → HasNoSession d (refusal.IllMachine ill.role ill.fault)

-- why no derivations are found for it within the bound: the first of these that applies
pub data HasNoDerivations (bound : ℕ) (d : Document_data) : Refusal → Type 0 where
  -- it has no session
  IsWithoutSession : (refusal : Refusal) → HasNoSession d refusal → HasNoDerivations bound d refusal
  -- there is no canonical derivation of some role's machine
  HasNoDerivation : (projections : List Projection_data) (machines : List Machine_data) → HasMachines d projections machines
      → (role : Role) (fault : SearchFault) → IsUnderivable bound machines projections role fault
      → HasNoDerivations bound d (refusal.Underivable (record { role = role; fault = fault }))

-- a fault of the projecting or of the search as a reason: that memory is refused is none
abbrev pub of_projecting : ProjFault → Refusal
of_projecting proj.NoMemory = refusal.NoMemory
of_projecting fault = refusal.Unprojectable fault

-- a fault of the search for that role as a reason
abbrev pub of_searching : Role → SearchFault → Refusal
of_searching role search.NoMemory = refusal.NoMemory
of_searching role fault = refusal.Underivable (record { role = role; fault = fault })

-- what is answered, by the reason. That memory is refused is no reason: the last line is never written
abbrev pub refusal_answer : Names_data → Refusal → Answer_data
refusal_answer names (refusal.IllFormed fault) = wf_answer names fault
refusal_answer names (refusal.Unprojectable fault) = proj_answer names fault
refusal_answer names (refusal.IllMachine role fault) = machine_answer names role fault
refusal_answer names (refusal.Underivable underivable) = search_answer names underivable.role underivable.fault
refusal_answer names (refusal.Blamed role blame) = blame_answer names role blame
refusal_answer names refusal.NoMemory = refused_answer [] []
