-- Public: what `explain` answers to a document.
use Rattle.std.specs.Prelude.{◌≡◌, ℕ, List, [], ◌++◌, slice_get, slice_index_or, Option, Some}
use Rattle.rs_answers.specs.Data.{Answer_data}
use Rattle.rs_answers.specs.Derivations.{AreCanonical}
use Rattle.rs_answers.specs.Refusals.{HasNoDerivations, refusal_answer}
use Rattle.rs_answers.specs.Report.{report}
use Rattle.rs_answers.specs.Sessions.{HasMachines}
use Rattle.rs_answers.specs.declared.derivations.Underivable.{Underivable}
use Rattle.rs_answers.specs.declared.refusals.Refusal.{Refusal}
use Rattle.rs_answers.specs.declared.refusals.Refusal.TheVariants as refusal
use Rattle.rs_derive.specs.Data.{Derivation_data}
use Rattle.rs_documents.specs.Data.{Document_data}
use Rattle.rs_model.specs.Data.{Machine_data}
use Rattle.rs_model.specs.declared.checks.MachineFault.{MachineFault}
use Rattle.rs_model.specs.declared.graph.Role.{Role}
use Rattle.rs_places.specs.Data.{Places_data}
use Rattle.rs_places.specs.Places.{ArePlaces}
use Rattle.rs_places.specs.declared.places.Position.{Position}
use Rattle.rs_project.specs.Data.{Projection_data}
use Rattle.rs_reasons.specs.Accepted.{machines_lines}
use Rattle.rs_reasons.specs.Faults.{state_line, talk_line}
use Rattle.rs_reasons.specs.Underivable.{TellsUnderivable}
use Rattle.rs_reasons.specs.Unprojectable.{TellsUnprojectable}
use Rattle.rs_walk_texts.specs.Data.{WalkSource_data}

-- where the states of the role's own machine stand; nowhere where it has none
abbrev pub states_of : Places_data → Role → List Position
states_of places role = slice_index_or places.machines role.0 []

-- the line of the state that is at fault, in the role's own machine
abbrev pub own_state_line : Document_data → Places_data → Role → MachineFault → Option (Option Machine_data) → List ℕ
own_state_line d places role fault (Some (Some machine)) = state_line d.names (states_of places role) machine fault
own_state_line d places role fault _ = []

-- the role's machine and its projection, as they are told
abbrev pub source_of : Document_data → Places_data → Role → Machine_data → Projection_data → WalkSource_data
source_of d places role machine projection = record {
  names = d.names;
  protocol = d.protocol;
  talks = places.talks;
  projection = projection;
  machine = machine;
  states = states_of places role;
}

-- no derivation of the role's machine in the document's session is found
pub record TellsOfMachine (bound : ℕ) (d : Document_data) (places : Places_data) (u : Underivable) (lines : List ℕ) : Type 0 where
  pub projections : List Projection_data
  pub machines : List Machine_data
  pub has : HasMachines d projections machines
  pub machine : Machine_data
  pub projection : Projection_data
  pub runs : slice_get machines u.role.0 ≡ Some machine
  pub projects : slice_get projections u.role.0 ≡ Some projection
  pub tells : TellsUnderivable (source_of d places u.role machine projection) bound u.fault lines

-- what is told of the reason why a document is refused. No derivation of its own is blamed, and that memory is refused is
-- no reason: the last two are never told
abbrev pub TellsWhy : ℕ → Document_data → Places_data → Refusal → List ℕ → Type 0
TellsWhy bound d places (refusal.IllFormed fault) lines = lines ≡ talk_line d.names d.protocol places.talks fault
TellsWhy bound d places (refusal.Unprojectable fault) lines = TellsUnprojectable d.names d.protocol places.talks fault lines
TellsWhy bound d places (refusal.IllMachine role fault) lines = lines ≡ own_state_line d places role fault (slice_get d.machines role.0)
TellsWhy bound d places (refusal.Underivable u) lines = TellsOfMachine bound d places u lines
TellsWhy bound d places (refusal.Blamed role blame) lines = lines ≡ []
TellsWhy bound d places refusal.NoMemory lines = lines ≡ []

-- the answer, with these lines behind it
abbrev pub with_lines : Answer_data → List ℕ → Answer_data
with_lines answer lines = record { text = answer.text ++ lines; verdict = answer.verdict }

-- what is answered by these places, where derivations are searched within the bound: one of these applies
pub data ExplainsBy (places : Places_data) (bound : ℕ) (d : Document_data) (answer : Answer_data) : Type 0 where
  -- the document is refused, and it is told why
  IsRefused : (refusal : Refusal) → HasNoDerivations bound d refusal → (lines : List ℕ) → TellsWhy bound d places refusal lines
      → answer ≡ with_lines (refusal_answer d.names refusal) lines → ExplainsBy places bound d answer
  -- its session is accepted, and it is told what its own machines do
  IsAccepted : (projections : List Projection_data) (machines : List Machine_data) (derivations : List Derivation_data) → HasMachines d projections machines
      → AreCanonical bound machines projections derivations
      → answer ≡ with_lines (report d.names.roles derivations) (machines_lines d.names places.machines 0 d.machines projections derivations) → ExplainsBy places bound d answer

-- what is answered to the document, by where its talks and its states stand in its text
pub record Explains (bound : ℕ) (bytes : List ℕ) (d : Document_data) (answer : Answer_data) : Type 0 where
  pub places : Places_data
  pub are_places : ArePlaces bytes d.names.roles places
  pub explains : ExplainsBy places bound d answer
