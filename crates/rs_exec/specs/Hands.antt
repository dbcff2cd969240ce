-- Steps: a session whose roles are all in one hand, as rounds see it.
use Rattle.std.specs.Prelude.{◌≡◌, ℕ, zero, suc, ◌<◌, ◌≤◌, List, [], ◌∷◌, length, map, Some, IsSome, slice_get}
use Rattle.rs_model.specs.declared.limits.TheConstants.{MOST_ROLES}
use Rattle.rs_model.specs.Data.{Machine_data}
use Rattle.rs_model.specs.declared.machines.State.TheVariants.{Done}
use Rattle.rs_core.specs.Choices.{AreWellFormed}
use Rattle.rs_core.specs.Configurations.{state_of}
use Rattle.rs_core.specs.Core.{Core_data}
use Rattle.rs_core.specs.Histories.{transcript_of}
use Rattle.rs_core.specs.declared.playing.End.{End}
use Rattle.rs_core.specs.declared.playing.End.TheVariants as end
use Rattle.rs_core.specs.declared.transcripts.Entry.{Entry}
use Rattle.rs_rings.specs.Acts.{message_of}
use Rattle.rs_rings.specs.Closed.{Closed_data, IsLeft, IsOver}
use Rattle.rs_rings.specs.Passes.{Pass_data, Rings_data}
use Rattle.rs_rings.specs.Views.{SpeaksFor, history_in, parcels_under_way, state_in}
use Rattle.rs_rings.specs.declared.views.View.{View}

-- the session, what the hand knows of all roles, and how many they are
pub record Hand_data : Type 0 where
  pub session : Rings_data
  pub all : Pass_data
  pub count : ℕ

-- the first n values of f
abbrev pub first_values : {X : Type 0} → ℕ → (ℕ → X) → List X
first_values zero f = []
first_values (suc n) f = f 0 ∷ first_values n (λ k. f (suc k))

-- what is known of all roles, as a session of queues in lists
abbrev pub core_of : List Machine_data → View → Core_data
core_of machines v = record {
  machines = machines;
  states = first_values (length machines) (λ p. state_in v p);
  queues = first_values (length machines) (λ p. first_values (length machines) (λ q. map message_of (parcels_under_way v p q)));
}

-- the list is the transcript of what role r has done
abbrev pub notes_of : View → ℕ → List Entry → Type 0
notes_of v r t = t ≡ transcript_of (history_in v r)

-- role r stands at a state of its machine
abbrev pub IsSomewhere : List Machine_data → View → ℕ → Type 0
IsSomewhere machines v r = IsSome (state_of (slice_get machines r) (state_in v r))

-- the hand is of this session and has all its n roles, and each is at a state of its machine
pub record IsHeld (session : Rings_data) (all : Pass_data) (count : ℕ) : Type 0 where
  pub table : all.table ≡ session.table
  pub speaks : (r : ℕ) → r < length session.machines → SpeaksFor all.view r
  pub well_formed : AreWellFormed session.machines
  pub some : 2 ≤ length session.machines
  pub roles : length session.machines ≤ MOST_ROLES
  pub many : count ≡ length session.machines
  pub somewhere : (r : ℕ) → r < length session.machines → IsSomewhere session.machines all.view r

-- all roles stand at the end of their machines
abbrev pub AllDone : List Machine_data → View → Type 0
AllDone machines v = (r : ℕ) → r < length machines → state_of (slice_get machines r) (state_in v r) ≡ Some Done

-- where the rounds ended so, all roles stand at the end of their machines
abbrev pub MayEnd : List Machine_data → View → End → Type 0
MayEnd machines v end.Ended = AllDone machines v
MayEnd machines v (end.Stopped role) = Unit {0}
MayEnd machines v (end.Full sender receiver) = Unit {0}

-- the session was closed where all had ended, and else given up
abbrev pub IsSpent : End → Closed_data → Type 0
IsSpent end.Ended closed = IsOver closed
IsSpent (end.Stopped role) closed = IsLeft closed
IsSpent (end.Full sender receiver) closed = IsLeft closed
