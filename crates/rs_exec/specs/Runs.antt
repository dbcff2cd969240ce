-- Public: what a run hands out beside its outcome: the session over rings that it went through.
use Rattle.std.specs.Prelude.{◌≡◌, ◌≢◌, ℕ, ◌<◌, ◌≤◌, List, length, Option, Some, slice_get}
use Rattle.rs_model.specs.Data.{Machine_data}
use Rattle.rs_model.specs.declared.machines.State.TheVariants.{Done}
use Rattle.rs_core.specs.Actors.{Behaviour, Choice, Plays}
use Rattle.rs_core.specs.Configurations.{Configuration, state_at}
use Rattle.rs_core.specs.Histories.{History, IsLegal}
use Rattle.rs_core.specs.Runs.{HasTranscripts}
use Rattle.rs_core.specs.Safety.{AllEnded}
use Rattle.rs_core.specs.declared.runs.Outcome.{Outcome}
use Rattle.rs_core.specs.declared.runs.Outcome.TheVariants.{Ended, Stopped}
use Rattle.rs_rings.specs.Closed.{Closed_data}
use Rattle.rs_rings.specs.Views.{history_in}

-- role r has made as many acts as the limit, and hasn't ended
pub record IsStoppedAt (machines : List Machine_data) (limit : ℕ) (history : ℕ → History) (end : Configuration) (r : ℕ) : Type 0 where
  pub present : r < length machines
  pub acts : length (history r) ≡ limit
  pub goes_on : state_at machines end r ≢ Some Done

-- the outcome is that of histories that lead to this configuration: all have ended, and the histories, without the values that
-- were sent, are the transcripts; or that role has stopped
abbrev pub IsOutcomeOf : List Machine_data → ℕ → (ℕ → History) → Configuration → Outcome → Type 0
IsOutcomeOf machines limit history end (Ended transcripts) = AllEnded machines end × HasTranscripts (length machines) history transcripts
IsOutcomeOf machines limit history end (Stopped role) = IsStoppedAt machines limit history end role.0

-- each role's actor of the first list plays the role's history with its machine, and becomes that of the second
pub record HavePlayed {A : Type 0} (machines : List Machine_data) (b : Behaviour A) (history : ℕ → History) (actors left : List A) : Type 0 where
  pub many : length left ≡ length machines
  pub each : (r : ℕ) (m : Machine_data) (x y : A) → slice_get machines r ≡ Some m → slice_get actors r ≡ Some x → slice_get left r ≡ Some y
      → (kept : Option Choice) × Plays b m x (history r) kept y

-- the session is one of these machines, and what was done in it is a run of these actors with that limit: it is legal, no role
-- has made more acts than the limit, the actors have played what their roles did, and have become those that are left; and the
-- outcome is what it came to
pub record IsSessionOfRun {A : Type 0} (machines : List Machine_data) (b : Behaviour A) (actors : List A) (limit : ℕ) (closed : Closed_data) (ending : Outcome) (left : List A) : Type 0 where
  pub same_machines : closed.machines ≡ machines
  pub end : Configuration
  pub legal : IsLegal machines (history_in closed.last) end
  pub bounded : (r : ℕ) → r < length machines → length (history_in closed.last r) ≤ limit
  pub played : HavePlayed machines b (history_in closed.last) actors left
  pub comes_to : IsOutcomeOf machines limit (history_in closed.last) end ending
