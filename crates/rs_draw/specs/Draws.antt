-- Public: what `draw` answers to a document.
use Rattle.std.specs.Prelude.{◌≡◌, ℕ, List, Option, Some, None, slice_get}
use Rattle.rs_model.specs.Data.{Machine_data, Names_data}
use Rattle.rs_model.specs.declared.graph.Role.{Role}
use Rattle.rs_text.specs.Names.{place_of}
use Rattle.rs_project.specs.Data.{Projection_data}
use Rattle.rs_project.specs.declared.projecting.ProjFault.{ProjFault}
use Rattle.rs_wellformed.specs.Faults.{first_fault}
use Rattle.rs_wellformed.specs.declared.checks.WfFault.{WfFault}
use Rattle.rs_documents.specs.Data.{Document_data}
use Rattle.rs_answers.specs.Data.{Answer_data}
use Rattle.rs_answers.specs.Improves.{unknown_role}
use Rattle.rs_answers.specs.RefusalTexts.{wf_answer, proj_answer}
use Rattle.rs_answers.specs.Sessions.{HasProjections, IsUnprojectable}
use Rattle.rs_answers.specs.declared.verdicts.Verdict.TheVariants.{Fine}
use Rattle.rs_pictures.specs.Machines.{machine_picture}
use Rattle.rs_pictures.specs.Sequences.{IsPictureOf}
use Rattle.rs_draw.specs.PutsOff.{DrawsOwn}

-- `draw`: the picture of the protocol, whether it is well formed or not
pub record DrawsProtocol (d : Document_data) (answer : Answer_data) : Type 0 where
  pub picture : IsPictureOf d.names d.protocol answer.text
  pub fine : answer.verdict ≡ Fine

-- the picture of the machine
abbrev pub drawn_machine : Names_data → Machine_data → Answer_data
drawn_machine names machine = record { text = machine_picture names machine; verdict = Fine }

-- the projection of the role with this place: the first of these that applies
pub data DrawsProjection (d : Document_data) (place : ℕ) (answer : Answer_data) : Type 0 where
  -- the protocol isn't well formed
  IsIllFormed : (fault : WfFault) → first_fault d.protocol ≡ Some fault → answer ≡ wf_answer d.names fault → DrawsProjection d place answer
  -- it has no projection onto some role
  HasNoProjection : first_fault d.protocol ≡ None → (role : Role) (fault : ProjFault) → IsUnprojectable d.protocol role fault → answer ≡ proj_answer d.names fault
      → DrawsProjection d place answer
  -- the projection is drawn
  IsProjected : (projections : List Projection_data) (projection : Projection_data) → HasProjections d projections → slice_get projections place ≡ Some projection
      → answer ≡ drawn_machine d.names projection.machine → DrawsProjection d place answer

-- `draw ROLE`
pub data DrawsRole (role : List ℕ) (d : Document_data) (answer : Answer_data) : Type 0 where
  -- the document has no such role
  HasNoRole : place_of role d.names.roles ≡ None → answer ≡ unknown_role → DrawsRole role d answer
  -- the role has a machine in the document, which is drawn, whether it is well formed or not
  HasMachine : (place : ℕ) (machine : Machine_data) → place_of role d.names.roles ≡ Some place → slice_get d.machines place ≡ Some (Some machine) → DrawsOwn d place machine answer
      → DrawsRole role d answer
  -- it has none, and its projection is drawn
  HasNoMachine : (place : ℕ) → place_of role d.names.roles ≡ Some place → slice_get d.machines place ≡ Some None → DrawsProjection d place answer → DrawsRole role d answer

-- `draw`, with the name of a role or without
abbrev pub Draws : Option (List ℕ) → Document_data → Answer_data → Type 0
Draws None d answer = DrawsProtocol d answer
Draws (Some role) d answer = DrawsRole role d answer
