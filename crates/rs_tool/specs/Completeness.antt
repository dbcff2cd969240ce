-- Public: what a `check` doesn't refuse.
use Rattle.std.specs.Prelude.{◌≡◌, ◌⊎◌, ℕ, ◌≤◌, List, length, Some, slice_get, IfSome}
use Rattle.rs_documents.specs.Data.{Document_data}
use Rattle.rs_documents.specs.Documents.{SpellsDocument}
use Rattle.rs_model.specs.Data.{Machine_data}
use Rattle.rs_model.specs.WellFormed.{IsWellFormedMachine}
use Rattle.rs_model.specs.declared.limits.TheConstants.{MOST_BYTES}
use Rattle.rs_project.specs.Data.{Projection_data}
use Rattle.rs_project.specs.Numbered.{AreNumberedProjections}
use Rattle.rs_search.specs.Canonical.{IsDerivable}
use Rattle.rs_wellformed.specs.WellFormed.{IsWellFormed}
use Rattle.rs_answers.specs.Machines.{machines_of}
use Rattle.rs_tool.specs.Data.{Call}
use Rattle.rs_tool.specs.Tasks.{SpellsCheck}
use Rattle.rs_tool.specs.declared.statuses.Status.{Status}
use Rattle.rs_tool.specs.declared.statuses.Status.TheVariants.{Fine, NoMemory}

-- each machine is well formed
abbrev pub EachIsWellFormed : ℕ → List Machine_data → Type 0
EachIsWellFormed roles machines = (p : ℕ) (m : Machine_data) → slice_get machines p ≡ Some m → IsWellFormedMachine m roles

-- each machine may be derived from its projection within the bound: some derivation forgets no act that is owed, and there
-- are at most 65,536 candidates
abbrev pub AreDerivable : ℕ → List Machine_data → List Projection_data → Type 0
AreDerivable bound machines projections = (p : ℕ) (m : Machine_data) (j : Projection_data) → slice_get machines p ≡ Some m → slice_get projections p ≡ Some j
    → IsDerivable m j.machine bound

-- the bytes are a text within the limit, and spell a document; its protocol is well formed and has a projection onto each
-- role; and each role's machine is well formed and may be derived from its projection within the bound
pub record SpellsDerivableSession (bound : ℕ) (bytes : List ℕ) : Type 0 where
  pub document : Document_data
  pub projections : List Projection_data
  pub short : length bytes ≤ MOST_BYTES
  pub spells : SpellsDocument bytes document
  pub well_formed : IsWellFormed document.protocol
  pub projected : AreNumberedProjections document.protocol projections
  pub machines_fit : EachIsWellFormed document.protocol.roles (machines_of document.machines projections)
  pub derivable : AreDerivable bound (machines_of document.machines projections) projections

-- a `check` of such a text within the bound, in which no fault of the source or the sink rises, is fine or wants memory
abbrev pub IsComplete : {S K : Type 0} → Call S K → Status → Type 0
IsComplete call status = (bound : ℕ) → SpellsCheck call.words bound → IfSome call.input.left (λ bytes. SpellsDerivableSession bound bytes
    → (call.input.rose → ⊥) → (call.output.rose → ⊥) → (status ≡ Fine) ⊎ (status ≡ NoMemory))
