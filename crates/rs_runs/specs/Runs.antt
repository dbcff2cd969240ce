-- Public: what `run` answers to a document.
use Rattle.std.specs.Prelude.{◌≡◌, ℕ, ◌+◌, ◌%◌, ◌^◌, List, [], ◌∷◌, codes, length, min, Option, Some, None}
use Rattle.std.specs.Fmt.{decimal}
use Rattle.rs_core.specs.Draws.{by_draws}
use Rattle.rs_core.specs.Histories.{transcript_of}
use Rattle.rs_core.specs.Plain.{Moment, Ending, Ended, Stopped, Stuck, IsPlain, FirstFull}
use Rattle.rs_core.specs.Runs.{HasTranscripts, got_from, sent_to}
use Rattle.rs_core.specs.declared.runs.Outcome.{Outcome}
use Rattle.rs_core.specs.declared.runs.Outcome.TheVariants as outcome
use Rattle.rs_core.specs.declared.transcripts.Entry.{Entry}
use Rattle.rs_derive.specs.Data.{Derivation_data}
use Rattle.rs_model.specs.Data.{Machine_data, Names_data}
use Rattle.rs_model.specs.declared.graph.Role.{Role}
use Rattle.rs_project.specs.Data.{Projection_data}
use Rattle.rs_safety.specs.Room.{room_of}
use Rattle.rs_documents.specs.Data.{Document_data}
use Rattle.rs_answers.specs.Data.{Answer_data}
use Rattle.rs_answers.specs.Derivations.{AreCanonical}
use Rattle.rs_answers.specs.RefusalTexts.{line_of_answer, role_name}
use Rattle.rs_answers.specs.Refusals.{HasNoDerivations, refusal_answer}
use Rattle.rs_answers.specs.Sessions.{HasMachines}
use Rattle.rs_answers.specs.Texts.{joined_texts}
use Rattle.rs_runs.specs.TranscriptTexts.{transcripts_text}
use Rattle.rs_answers.specs.declared.refusals.Refusal.{Refusal}
use Rattle.rs_model.specs.declared.runs.RunOptions.{RunOptions}
use Rattle.rs_answers.specs.declared.verdicts.Verdict.TheVariants as verdict
use Rattle.rs_model.specs.declared.limits.TheConstants.{MOST_CAPACITY}

-- the actor of a role: its draws begin at the seed and the role's number
abbrev pub actor_of : ℕ → ℕ → ℕ
actor_of seed role = (seed + role) % 2 ^ 31

-- how many messages a queue holds: as many as are asked for, or else the session's room, or 1,024 where that is greater
abbrev pub capacity_of : Option ℕ → ℕ → ℕ
capacity_of (Some ring) room = ring
capacity_of None room = min room MOST_CAPACITY

-- all roles have ended: what each did
abbrev pub ended_answer : Names_data → List (List Entry) → Answer_data
ended_answer names transcripts = record {
  text = joined_texts (codes "ended\n" ∷ transcripts_text names names.roles transcripts ∷ []);
  verdict = verdict.Fine;
}

-- the role has made as many acts as the limit allows, and hasn't ended
abbrev pub stopped_answer : Names_data → Role → Answer_data
stopped_answer names role = line_of_answer (codes "stopped ") (role_name names role) verdict.Stopped

-- what a run came to
abbrev pub outcome_answer : Names_data → Outcome → Answer_data
outcome_answer names (outcome.Ended transcripts) = ended_answer names transcripts
outcome_answer names (outcome.Stopped role) = stopped_answer names role

-- no role can move: the sender's queue to the receiver is full, into which it has put so many messages, of which so many
-- were taken
abbrev pub full_answer : Names_data → Role → Role → ℕ → ℕ → Answer_data
full_answer names sender receiver sent taken =
    line_of_answer (codes "full ") (joined_texts (role_name names sender ∷ codes "->" ∷ role_name names receiver ∷ codes " sent " ∷ decimal sent ∷ codes " taken " ∷ decimal taken ∷ []))
    verdict.Full

-- what is told of the end of a run with queues of this capacity
pub data TellsEnd (names : Names_data) (machines : List Machine_data) (capacity : ℕ) (answer : Answer_data) : Ending ℕ → Type 0 where
  HasEnded : (end : Moment ℕ) (transcripts : List (List Entry)) → HasTranscripts (length machines) end.history transcripts
      → answer ≡ ended_answer names transcripts → TellsEnd names machines capacity answer (Ended end)
  IsStopped : (role : ℕ) (end : Moment ℕ) → answer ≡ stopped_answer names (record { 0 = role })
      → TellsEnd names machines capacity answer (Stopped role end)
  IsFull : (end : Moment ℕ) (sender receiver : Role) → FirstFull machines (Some capacity) end sender.0 receiver
      → answer ≡ full_answer names sender receiver (sent_to receiver.0 (transcript_of (end.history sender.0))) (got_from sender.0 (transcript_of (end.history receiver.0)))
      → TellsEnd names machines capacity answer (Stuck end)

-- what is told of the plain run of the machines, by these actors, with queues of this capacity
pub record TellsRun (names : Names_data) (machines : List Machine_data) (actors : ℕ → ℕ) (limit capacity : ℕ) (answer : Answer_data) : Type 0 where
  pub end : Ending ℕ
  pub plain : IsPlain machines by_draws actors limit (Some capacity) end
  pub tells : TellsEnd names machines capacity answer end

-- one of these applies
pub data Runs (options : RunOptions) (d : Document_data) (answer : Answer_data) : Type 0 where
  -- the document is refused
  IsRefused : (refusal : Refusal) → HasNoDerivations options.bound d refusal → answer ≡ refusal_answer d.names refusal → Runs options d answer
  -- the session is accepted, and run
  IsRun : (projections : List Projection_data) (machines : List Machine_data) (derivations : List Derivation_data) → HasMachines d projections machines
      → AreCanonical options.bound machines projections derivations
      → TellsRun d.names machines (actor_of options.seed) options.limit (capacity_of options.ring (room_of derivations)) answer → Runs options d answer
