-- Steps: players at a moment of the plain run, rounds of turns, and how they end.
use Rattle.std.specs.Prelude.{◌≡◌, ℕ, ◌+◌, ◌<◌, ◌≤◌, Bool, true, false, List, [], ◌∷◌, Option, Some, slice_get, length}
use Rattle.rs_model.specs.Data.{Machine_data}
use Rattle.rs_model.specs.declared.graph.Role.{Role}
use Rattle.rs_model.specs.declared.machines.State.TheVariants.{Puts}
use Rattle.rs_model.specs.declared.graph.Arm.{Arm}
use Rattle.rs_core.specs.Actors.{Behaviour}
use Rattle.rs_core.specs.Configurations.{state_at}
use Rattle.rs_core.specs.Core.{Core_data, configuration_of}
use Rattle.rs_core.specs.Plain.{Moment, IsAtLimit, LimitedTurn, Turns}
use Rattle.rs_core.specs.Turns.{KeepsWell}
use Rattle.rs_core.specs.declared.players.Player.{Player}
use Rattle.rs_core.specs.declared.playing.End.{End}
use Rattle.rs_core.specs.declared.playing.End.TheVariants as end
use Rattle.rs_core.specs.declared.playing.Rounded.{Rounded}
use Rattle.rs_core.specs.declared.playing.Rounded.TheVariants as rounded
use Rattle.rs_core.specs.Runs.{ArePlayers}

-- the moment is this one
pub record Matches {A : Type 0} (ms : List Machine_data) (l : Moment A) (c : Core_data) (xs : List (Player A)) : Type 0 where
  pub at : configuration_of c ≡ l.at
  pub machines : c.machines ≡ ms
  pub players : ArePlayers (length ms) l.history l.actor l.kept xs

-- how many acts the players have made
abbrev pub acts_of : {A : Type 0} → List (Player A) → ℕ
acts_of [] = 0
acts_of {A} (x ∷ xs) = length x.transcript + acts_of xs

-- between turns: a player for each role, what each keeps it can choose now, and none has made more acts than the limit
pub record AreReady {A : Type 0} (limit : ℕ) (c : Core_data) (xs : List (Player A)) : Type 0 where
  pub many : length xs ≡ length c.machines
  pub keeps : (p : ℕ) (x : Player A) → slice_get xs p ≡ Some x → KeepsWell c p x
  pub bounded : (p : ℕ) (x : Player A) → slice_get xs p ≡ Some x → length x.transcript ≤ limit

-- what a round from moment l tells
abbrev pub RoundTells : {A : Type 0} → List Machine_data → Behaviour A → ℕ → Option ℕ → Moment A → Core_data → List (Player A) → Rounded → Type 0
RoundTells {A} machines b limit capacity l c xs rounded.Moved =
    (k : Moment A) × Matches machines k c xs × Turns (LimitedTurn machines b limit capacity) (length machines) 0 l k true
RoundTells {A} machines b limit capacity l c xs rounded.Idle =
    (k : Moment A) × Matches machines k c xs × Turns (LimitedTurn machines b limit capacity) (length machines) 0 l k false
RoundTells {A} machines b limit capacity l c xs (rounded.Stopped role) =
    (k : Moment A) × (moved : Bool) × Matches machines k c xs × Turns (LimitedTurn machines b limit capacity) role.0 0 l k moved
    × IsAtLimit machines limit role.0 k × (role.0 < length machines)

-- a round from the session c0 with its players to c with its players
pub record HasRound {A : Type 0} (b : Behaviour A) (limit : ℕ) (capacity : Option ℕ) (c0 : Core_data) (xs0 : List (Player A)) (c : Core_data) (xs : List (Player A)) (r : Rounded) : Type 0 where
  pub machines : c.machines ≡ c0.machines
  pub ready : AreReady limit c xs
  pub more : r ≡ rounded.Moved → acts_of xs0 < acts_of xs
  pub tells : (l : Moment A) → Matches c0.machines l c0 xs0 → RoundTells c0.machines b limit capacity l c xs r

-- none of the first n roles stands in a state that sends
abbrev pub NoneSends : Core_data → ℕ → Type 0
NoneSends c n = (r : ℕ) (peer : Role) (arms : List Arm) → r < n → state_at c.machines (configuration_of c) r ≡ Some (Puts peer arms) → ⊥

-- the first role in order that stands in a state that sends, and to whom
pub record IsFirstSender (c : Core_data) (sender : ℕ) (receiver : Role) : Type 0 where
  pub arms : List Arm
  pub present : sender < length c.machines
  pub puts : state_at c.machines (configuration_of c) sender ≡ Some (Puts receiver arms)
  pub first : NoneSends c sender

-- how rounds end where no role moved in the last one
abbrev pub EndTells : Core_data → End → Type 0
EndTells c end.Ended = NoneSends c (length c.machines)
EndTells c (end.Full sender receiver) = IsFirstSender c sender.0 receiver
EndTells c (end.Stopped role) = ⊥
