-- Public: what `project` answers to a document.
use Rattle.std.specs.Prelude.{◌≡◌, ℕ, List, Some, None}
use Rattle.std.specs.List.{flat_map}
use Rattle.rs_tables.specs.Tables.{table_of}
use Rattle.rs_model.specs.Data.{Names_data}
use Rattle.rs_model.specs.declared.graph.Role.{Role}
use Rattle.rs_project.specs.Data.{Projection_data}
use Rattle.rs_project.specs.declared.projecting.ProjFault.{ProjFault}
use Rattle.rs_wellformed.specs.Faults.{first_fault}
use Rattle.rs_wellformed.specs.declared.checks.WfFault.{WfFault}
use Rattle.rs_documents.specs.Data.{Document_data}
use Rattle.rs_answers.specs.Data.{Answer_data}
use Rattle.rs_answers.specs.RefusalTexts.{wf_answer, proj_answer}
use Rattle.rs_answers.specs.Sessions.{HasProjections, IsUnprojectable}
use Rattle.rs_answers.specs.declared.verdicts.Verdict.TheVariants.{Fine}

-- the tables of the projections, in role order
abbrev pub tables_text : Names_data → List Projection_data → List ℕ
tables_text names projections = flat_map (λ (p : Projection_data). table_of names p.machine) projections

-- the first of these that applies
pub data Projects (d : Document_data) (answer : Answer_data) : Type 0 where
  -- the protocol isn't well formed
  IsIllFormed : (fault : WfFault) → first_fault d.protocol ≡ Some fault → answer ≡ wf_answer d.names fault → Projects d answer
  -- it has no projection onto some role
  HasNoProjection : first_fault d.protocol ≡ None → (role : Role) (fault : ProjFault) → IsUnprojectable d.protocol role fault
      → answer ≡ proj_answer d.names fault → Projects d answer
  -- its projections are shown
  HasTables : (projections : List Projection_data) → HasProjections d projections
      → answer ≡ record { text = tables_text d.names projections; verdict = Fine } → Projects d answer
