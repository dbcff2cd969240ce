-- Public: what `draw --run` answers to a document.
use Rattle.std.specs.Prelude.{◌≡◌, ℕ, List, length, Option, Some}
use Rattle.rs_core.specs.Draws.{by_draws}
use Rattle.rs_core.specs.Plain.{Ending, Ended, Stopped, Stuck, IsPlain, FirstFull}
use Rattle.rs_core.specs.Runs.{HasTranscripts, last_moment}
use Rattle.rs_core.specs.declared.playing.End.{End}
use Rattle.rs_core.specs.declared.playing.End.TheVariants as end
use Rattle.rs_core.specs.declared.transcripts.Entry.{Entry}
use Rattle.rs_derive.specs.Data.{Derivation_data}
use Rattle.rs_model.specs.Data.{Machine_data, Names_data}
use Rattle.rs_model.specs.declared.runs.RunOptions.{RunOptions}
use Rattle.rs_project.specs.Data.{Projection_data}
use Rattle.rs_safety.specs.Room.{room_of}
use Rattle.rs_documents.specs.Data.{Document_data}
use Rattle.rs_answers.specs.Data.{Answer_data}
use Rattle.rs_answers.specs.Derivations.{AreCanonical}
use Rattle.rs_answers.specs.Refusals.{HasNoDerivations, refusal_answer}
use Rattle.rs_answers.specs.Sessions.{HasMachines}
use Rattle.rs_answers.specs.declared.refusals.Refusal.{Refusal}
use Rattle.rs_answers.specs.declared.verdicts.Verdict.{Verdict}
use Rattle.rs_answers.specs.declared.verdicts.Verdict.TheVariants as verdict
use Rattle.rs_runs.specs.Runs.{actor_of, capacity_of}
use Rattle.rs_run_pictures.specs.Lines.{run_picture}

-- the verdict that `run` has for this end
abbrev pub verdict_of : End → Verdict
verdict_of end.Ended = verdict.Fine
verdict_of (end.Stopped role) = verdict.Stopped
verdict_of (end.Full sender receiver) = verdict.Full

-- the run over queues of this capacity ends so; if no role can act, the sender is the one that `run` names
abbrev pub EndIs : List Machine_data → (capacity : ℕ) → Ending ℕ → End → Type 0
EndIs machines capacity (Ended moment) end.Ended = Unit {0}
EndIs machines capacity (Stopped place moment) (end.Stopped role) = place ≡ role.0
EndIs machines capacity (Stuck moment) (end.Full sender receiver) = FirstFull machines (Some capacity) moment sender.0 receiver
EndIs machines capacity _ _ = ⊥

-- the picture of the plain run of the machines, by these actors, over queues of this capacity
pub record DrawsPlain (names : Names_data) (machines : List Machine_data) (actors : ℕ → ℕ) (limit capacity : ℕ) (answer : Answer_data) : Type 0 where
  pub ending : Ending ℕ
  pub plain : IsPlain machines by_draws actors limit (Some capacity) ending
  pub last : End
  pub ends : EndIs machines capacity ending last
  pub transcripts : List (List Entry)
  pub has : HasTranscripts (length machines) (last_moment ending).history transcripts
  pub drawn : answer ≡ record { text = run_picture names machines capacity transcripts last; verdict = verdict_of last }

-- `draw --run`: one of these applies
pub data DrawsRun (options : RunOptions) (d : Document_data) (answer : Answer_data) : Type 0 where
  -- the document is refused
  IsRefused : (refusal : Refusal) → HasNoDerivations options.bound d refusal → answer ≡ refusal_answer d.names refusal → DrawsRun options d answer
  -- the session is accepted, and the run that `run` makes of it by one worker is drawn
  IsDrawn : (projections : List Projection_data) (machines : List Machine_data) (derivations : List Derivation_data) → HasMachines d projections machines
      → AreCanonical options.bound machines projections derivations
      → DrawsPlain d.names machines (actor_of options.seed) options.limit (capacity_of options.ring (room_of derivations)) answer → DrawsRun options d answer
