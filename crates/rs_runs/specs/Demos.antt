-- Public: what `demo` answers to its input.
use Rattle.std.specs.Prelude.{◌≡◌, ◌<◌, ◌≤◌, ℕ, List, [], codes, get_or, length, Option, Some}
use Rattle.rs_answers.specs.Data.{Answer_data}
use Rattle.rs_answers.specs.Derivations.{AreCanonical}
use Rattle.rs_answers.specs.RefusalTexts.{malformed_answer, too_small}
use Rattle.rs_answers.specs.Refusals.{HasNoDerivations, refusal_answer}
use Rattle.rs_runs.specs.Runs.{capacity_of, stopped_answer}
use Rattle.rs_answers.specs.Sessions.{HasMachines}
use Rattle.rs_answers.specs.declared.refusals.Refusal.{Refusal}
use Rattle.rs_answers.specs.declared.verdicts.Verdict.TheVariants as verdict
use Rattle.rs_core.specs.Plain.{Moment, Ending, Ended, Stopped, IsPlain}
use Rattle.rs_core.specs.Runs.{HasActors}
use Rattle.rs_core.specs.declared.runs.Outcome.{Outcome}
use Rattle.rs_core.specs.declared.runs.Outcome.TheVariants as outcome
use Rattle.rs_runs.specs.declared.limits.TheConstants.{DEMO_LIMIT}
use Rattle.rs_demos.specs.Acting.{by_demo}
use Rattle.rs_demos.specs.Outputs.{output_of}
use Rattle.rs_demos.specs.Starts.{HasNoNumbers, StartsWithActors}
use Rattle.rs_demos.specs.Texts.{IsDemoText}
use Rattle.rs_demos.specs.declared.actors.DemoTalker.{DemoTalker}
use Rattle.rs_demos.specs.declared.actors.DemoTalker.TheVariants as actor
use Rattle.rs_derive.specs.Data.{Derivation_data}
use Rattle.rs_documents.specs.Data.{Document_data}
use Rattle.rs_documents.specs.Documents.{SpellsDocument}
use Rattle.rs_model.specs.Data.{Machine_data, Names_data}
use Rattle.rs_model.specs.declared.demos.Demo.{Demo}
use Rattle.rs_project.specs.Data.{Projection_data}
use Rattle.rs_safety.specs.Room.{room_of}
use Rattle.rs_model.specs.declared.limits.TheConstants.{DEFAULT_BOUND}

-- the bytes aren't the numbers that the demo asks for
abbrev pub bad_numbers : Answer_data
bad_numbers = malformed_answer (codes "numbers")

-- all roles have ended: what is printed of their actors
abbrev pub demo_ended_answer : Demo → List DemoTalker → Answer_data
demo_ended_answer kind actors = record { text = output_of kind actors; verdict = verdict.Fine }

-- what a run came to, with the actors that it left
abbrev pub demo_outcome_answer : Demo → Names_data → Outcome → List DemoTalker → Answer_data
demo_outcome_answer kind names (outcome.Ended transcripts) left = demo_ended_answer kind left
demo_outcome_answer kind names (outcome.Stopped role) left = stopped_answer names role

-- the actor of a role; behind the last role there is none, and a sink stands for it
abbrev pub actor_at : List DemoTalker → ℕ → DemoTalker
actor_at actors role = get_or actors role (actor.Sink [])

-- what is told of the end of a run. There is no row for a run in which no role can move: where the rings hold as many
-- messages as the room says, there is none
pub data TellsDemoEnd (kind : Demo) (names : Names_data) (roles : ℕ) (answer : Answer_data) : Ending DemoTalker → Type 0 where
  HasEnded : (end : Moment DemoTalker) (actors : List DemoTalker) → HasActors roles end.actor actors → answer ≡ demo_ended_answer kind actors
      → TellsDemoEnd kind names roles answer (Ended end)
  IsStopped : (role : ℕ) (end : Moment DemoTalker) → answer ≡ stopped_answer names (record { 0 = role })
      → TellsDemoEnd kind names roles answer (Stopped role end)

-- what is told of the plain run of the machines, by these actors and with rings of this capacity
pub record TellsDemoRun (kind : Demo) (actors : List DemoTalker) (names : Names_data) (machines : List Machine_data) (capacity : ℕ) (answer : Answer_data) : Type 0 where
  pub end : Ending DemoTalker
  pub plain : IsPlain machines by_demo (actor_at actors) DEMO_LIMIT (Some capacity) end
  pub tells : TellsDemoEnd kind names (length machines) answer end

-- what is answered to an accepted session
pub data Performs (kind : Demo) (ring : Option ℕ) (actors : List DemoTalker) (names : Names_data) (machines : List Machine_data) (derivations : List Derivation_data) (answer : Answer_data)
    : Type 0 where
  -- the rings are too small
  IsTooSmall : capacity_of ring (room_of derivations) < room_of derivations → answer ≡ too_small (capacity_of ring (room_of derivations)) (room_of derivations)
      → Performs kind ring actors names machines derivations answer
  -- it is run
  IsRun : room_of derivations ≤ capacity_of ring (room_of derivations) → TellsDemoRun kind actors names machines (capacity_of ring (room_of derivations)) answer
      → Performs kind ring actors names machines derivations answer

-- what is answered to the demo's own document
pub data AnswersOwn (kind : Demo) (ring : Option ℕ) (actors : List DemoTalker) (d : Document_data) (answer : Answer_data) : Type 0 where
  -- it is refused
  IsRefused : (refusal : Refusal) → HasNoDerivations DEFAULT_BOUND d refusal → answer ≡ refusal_answer d.names refusal → AnswersOwn kind ring actors d answer
  -- its session is accepted
  IsAccepted : (projections : List Projection_data) (machines : List Machine_data) (derivations : List Derivation_data) → HasMachines d projections machines
      → AreCanonical DEFAULT_BOUND machines projections derivations → Performs kind ring actors d.names machines derivations answer → AnswersOwn kind ring actors d answer

-- what a demo opens with: the actors that the bytes ask for, and the text of the demo's document for as many roles
pub record Opens (kind : Demo) (bytes : List ℕ) (actors : List DemoTalker) (text : List ℕ) : Type 0 where
  pub starts : StartsWithActors kind bytes actors
  pub document : IsDemoText kind (length actors) text

-- the answer of the demo, where the input is these bytes
pub data AnswersDemo (kind : Demo) (ring : Option ℕ) (bytes : List ℕ) (answer : Answer_data) : Type 0 where
  -- they aren't the numbers that it asks for
  HasBadNumbers : HasNoNumbers kind bytes → answer ≡ bad_numbers → AnswersDemo kind ring bytes answer
  -- the text of its document spells a document
  IsDocument : (actors : List DemoTalker) (text : List ℕ) (d : Document_data) → Opens kind bytes actors text → SpellsDocument text d → AnswersOwn kind ring actors d answer
      → AnswersDemo kind ring bytes answer
