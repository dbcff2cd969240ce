-- A round so far, and a run so far.
use Rattle.std.specs.Prelude.{◌≡◌, ℕ, ◌<◌, ◌≤◌, Bool, true, List, Option}
use Rattle.rs_model.specs.Data.{Machine_data}
use Rattle.rs_core.specs.Actors.{Behaviour}
use Rattle.rs_core.specs.Core.{Core_data}
use Rattle.rs_core.specs.Plain as plain
use Rattle.rs_core.specs.Plain.{Moment, LimitedTurn, Turns}
use Rattle.rs_core.specs.declared.players.Player.{Player}
use Rattle.rs_core.specs.Runs.{IsGiven}
use Rattle.rs_core.specs.Rounds.{Matches, acts_of, AreReady}

-- the first i turns of a round have been made, from the session c0 with its players to c with its players
pub record SoFar {A : Type 0} (b : Behaviour A) (limit : ℕ) (capacity : Option ℕ) (c0 : Core_data) (xs0 : List (Player A)) (c : Core_data) (xs : List (Player A)) (i : ℕ) (moved : Bool) : Type 0 where
  pub machines : c.machines ≡ c0.machines
  pub ready : AreReady limit c xs
  pub acts : acts_of xs0 ≤ acts_of xs
  pub more : moved ≡ true → acts_of xs0 < acts_of xs
  pub runs : (l : Moment A) → Matches c0.machines l c0 xs0
      → (k : Moment A) × Matches c0.machines k c xs × Turns (LimitedTurn c0.machines b limit capacity) i 0 l k moved

-- the rounds so far have come to the session c with its players
pub record RunSoFar {A : Type 0} (b : Behaviour A) (ms : List Machine_data) (limit : ℕ) (capacity : Option ℕ) (xs0 : List A) (c : Core_data) (xs : List (Player A)) : Type 0 where
  pub machines : c.machines ≡ ms
  pub ready : AreReady limit c xs
  pub runs : (given : ℕ → A) → IsGiven given xs0
      → (k : Moment A) × Matches ms k c xs × ((o : plain.Ending A) → plain.PlainFrom ms b limit capacity k o → plain.IsPlain ms b given limit capacity o)
