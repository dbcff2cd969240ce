-- Public: what an `explain` promises if the last line that it writes is `no bound helps`.
use Rattle.std.specs.Prelude.{◌≡◌, ℕ, List, ◌++◌, Some}
use Rattle.rs_answers.specs.Derivations.{IsUnderivable}
use Rattle.rs_answers.specs.Sessions.{HasMachines}
use Rattle.rs_documents.specs.Data.{Document_data}
use Rattle.rs_documents.specs.Documents.{SpellsDocument}
use Rattle.rs_model.specs.Data.{Machine_data}
use Rattle.rs_model.specs.declared.graph.Role.{Role}
use Rattle.rs_project.specs.Data.{Projection_data}
use Rattle.rs_reasons.specs.Underivable.{hopeless_line}
use Rattle.rs_search.specs.Canonical.{CanFollow}
use Rattle.rs_search.specs.declared.faults.SearchFault.{SearchFault}
use Rattle.rs_tool.specs.Data.{CallOutput}

-- the text ends with the line `no bound helps`
abbrev pub SaysNoBoundHelps : List ℕ → Type 0
SaysNoBoundHelps text = (before : List ℕ) × (text ≡ before ++ hopeless_line)

-- it is known which text the sink takes in the call, and this text ends with the line `no bound helps`
abbrev pub WritesNoBoundHelps : {K : Type 0} → CallOutput K → Type 0
WritesNoBoundHelps output = (old : List ℕ) × (text : List ℕ) × (output.written ≡ Some old) × (output.later ≡ Some (old ++ text)) × SaysNoBoundHelps text

-- the bytes spell a document that has a session; the role is the first one for whose machine the search within the bound finds no
-- derivation; and no derivation of that machine from its projection, within any bound, remembers what it owes
pub record SpellsHopelessMachine (bound : ℕ) (bytes : List ℕ) : Type 0 where
  pub document : Document_data
  pub projections : List Projection_data
  pub machines : List Machine_data
  pub role : Role
  pub fault : SearchFault
  pub spells : SpellsDocument bytes document
  pub has : HasMachines document projections machines
  pub refused : IsUnderivable bound machines projections role fault
  pub hopeless : (any : ℕ) → CanFollow refused.machine refused.projection.machine any → ⊥
