-- Steps: one turn of a role, as a run makes it.
use Rattle.std.specs.Prelude.{◌≡◌, ◌≢◌, ℕ, ◌<◌, ◌≤◌, Bool, false, nat_le, List, [], ◌∷◌, ◌++◌, Option, Some, None, length}
use Rattle.rs_model.specs.declared.graph.Arm.{Arm}
use Rattle.rs_model.specs.declared.graph.Role.{Role}
use Rattle.rs_model.specs.declared.machines.State.TheVariants.{Done, Takes}
use Rattle.rs_core.specs.Actors.{Choice, Behaviour}
use Rattle.rs_core.specs.Configurations.{Sends, Receives, state_at}
use Rattle.rs_core.specs.Core.{Core_data, configuration_of}
use Rattle.rs_core.specs.Plain.{HasRoom, IsFull, offer_of}
use Rattle.rs_core.specs.declared.players.Player.{Player}
use Rattle.rs_core.specs.declared.transcripts.Entry.TheVariants as entry
use Rattle.rs_core.specs.declared.turns.NextAct.{NextAct}
use Rattle.rs_core.specs.declared.turns.NextAct.TheVariants as next
use Rattle.rs_core.specs.declared.turns.Turned.{Turned}
use Rattle.rs_core.specs.declared.turns.Turned.TheVariants as turned
use Rattle.rs_core.specs.Choosable.{CanChoose}

-- what the player keeps is a choice that role p has now
abbrev pub KeepsWell : {A : Type 0} → Core_data → ℕ → Player A → Type 0
KeepsWell c p x = (choice : Choice) → x.kept ≡ Some choice → (peer : Role) × CanChoose c p choice peer

-- role p's player offers this choice, by this arm, and is then y
pub record Offers {A : Type 0} (b : Behaviour A) (c : Core_data) (p : ℕ) (x y : Player A) (peer : Role) (arm : Arm) (choice : Choice) : Type 0 where
  pub can : CanChoose c p choice peer
  pub present : peer.0 < length c.machines
  pub same_arm : can.arm ≡ arm
  pub offers : offer_of b x.actor x.kept can.arms ≡ (choice, y.actor)
  pub kept : y.kept ≡ None
  pub transcript : y.transcript ≡ x.transcript

-- what role p can do next
abbrev pub NextTells : {A : Type 0} → Behaviour A → ℕ → Core_data → ℕ → Player A → Player A → NextAct → Type 0
NextTells b limit c p x y next.Done = (state_at c.machines (configuration_of c) p ≡ Some Done) × (y ≡ x)
NextTells b limit c p x y next.Limit = (state_at c.machines (configuration_of c) p ≢ Some Done) × (limit ≤ length x.transcript) × (y ≡ x)
NextTells b limit c p x y (next.Sends peer place arm value) = (length x.transcript < limit) × Offers b c p x y peer arm (place, value)
NextTells b limit c p x y (next.Receives peer) =
    (length x.transcript < limit) × ((arms : List Arm) × (state_at c.machines (configuration_of c) p ≡ Some (Takes peer arms))) × (y ≡ x)

-- role p has sent what its player offered
pub record SentTurn {A : Type 0} (b : Behaviour A) (capacity : Option ℕ) (c : Core_data) (x : Player A) (p : ℕ) (d : Core_data) (y : Player A) : Type 0 where
  pub choice : Choice
  pub step : Sends c.machines (configuration_of c) p choice.0 choice.1 (configuration_of d)
  pub room : HasRoom capacity ((configuration_of c).queue p step.peer.0)
  pub offers : offer_of b x.actor x.kept step.arms ≡ (choice, y.actor)
  pub kept : y.kept ≡ None
  pub entry : y.transcript ≡ x.transcript ++ (entry.Sent step.peer step.arm.label ∷ [])

-- role p has received, and its actor was told
pub record GotTurn {A : Type 0} (b : Behaviour A) (c : Core_data) (x : Player A) (p : ℕ) (d : Core_data) (y : Player A) : Type 0 where
  pub step : Receives c.machines (configuration_of c) p (configuration_of d)
  pub told : b.told x.actor step.arms step.place step.message.value ≡ y.actor
  pub kept : y.kept ≡ x.kept
  pub entry : y.transcript ≡ x.transcript ++ (entry.Got step.peer step.message.label step.message.value ∷ [])

-- role p has made an act: it has sent, or it has received
pub data HasMoved {A : Type 0} (b : Behaviour A) (capacity : Option ℕ) (c : Core_data) (x : Player A) (p : ℕ) (d : Core_data) (y : Player A) : Type 0 where
  HasSent : SentTurn b capacity c x p d y → HasMoved b capacity c x p d y
  HasGot : GotTurn b c x p d y → HasMoved b capacity c x p d y

-- role p has found its queue full, and its player keeps what it offered
pub record KeptTurn {A : Type 0} (b : Behaviour A) (capacity : Option ℕ) (c : Core_data) (x : Player A) (p : ℕ) (y : Player A) : Type 0 where
  pub choice : Choice
  pub peer : Role
  pub can : CanChoose c p choice peer
  pub full : IsFull capacity ((configuration_of c).queue p peer.0)
  pub offers : offer_of b x.actor x.kept can.arms ≡ (choice, y.actor)
  pub kept : y.kept ≡ Some choice
  pub transcript : y.transcript ≡ x.transcript

-- what the turn of role p tells: from the session c and its player x to d and y
abbrev pub TurnTells : {A : Type 0} → Behaviour A → ℕ → Option ℕ → Core_data → Player A → ℕ → Core_data → Player A → Turned → Type 0
TurnTells b limit capacity c x p d y turned.Ended = (state_at c.machines (configuration_of c) p ≡ Some Done) × (d ≡ c) × (y ≡ x)
TurnTells b limit capacity c x p d y turned.AtLimit =
    (state_at c.machines (configuration_of c) p ≢ Some Done) × (limit ≤ length x.transcript) × (d ≡ c) × (y ≡ x)
TurnTells b limit capacity c x p d y turned.Waits =
    (length x.transcript < limit) × ((peer : Role) × (arms : List Arm) × (state_at c.machines (configuration_of c) p ≡ Some (Takes peer arms)) × ((configuration_of c).queue peer.0 p ≡ [])) × (d ≡ c)
    × (y ≡ x)
TurnTells b limit capacity c x p d y turned.Full = (length x.transcript < limit) × KeptTurn b capacity c x p y × (d ≡ c)
TurnTells b limit capacity c x p d y turned.Moved = (length x.transcript < limit) × HasMoved b capacity c x p d y × (d.machines ≡ c.machines)

-- the test of a queue's length
abbrev pub is_full : Option ℕ → ℕ → Bool
is_full None many = false
is_full (Some capacity) many = nat_le capacity many
