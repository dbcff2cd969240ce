-- Public: what rounds are made over, a session whose roles are all in one hand, and what its acts tell.
use Rattle.std.specs.Prelude.{◌≡◌, ◌≢◌, ℕ, ◌<◌, ◌^◌, List, [], ◌∷◌, ◌++◌, Option, Some, None, IsSome, length, slice_get}
use Rattle.rs_model.specs.declared.graph.Arm.{Arm}
use Rattle.rs_model.specs.declared.graph.Label.{Label}
use Rattle.rs_model.specs.declared.graph.Role.{Role}
use Rattle.rs_model.specs.declared.machines.State.TheVariants.{Takes}
use Rattle.rs_core.specs.Actors.{Choice}
use Rattle.rs_core.specs.Choices.{AreWellFormed}
use Rattle.rs_core.specs.Configurations.{Sends, StartsAt, state_at}
use Rattle.rs_core.specs.Core.{Core_data, HasReceived, configuration_of}
use Rattle.rs_core.specs.Plain.{HasRoom, IsFull}
use Rattle.rs_core.specs.Safety.{IsSafe}
use Rattle.rs_core.specs.Choosable.{CanChoose, label_of}
use Rattle.rs_core.specs.declared.messages.GotBy.{GotBy}
use Rattle.rs_core.specs.declared.players.Player.{Player}
use Rattle.rs_core.specs.declared.queues.Posted.{Posted}
use Rattle.rs_core.specs.declared.queues.Posted.TheVariants as posted
use Rattle.rs_core.specs.declared.transcripts.Entry.{Entry}
use Rattle.rs_core.specs.declared.transcripts.Entry.TheVariants as entry

-- what is known of the roles' transcripts: which lists may be role p's
abbrev pub KnownTranscripts : Type 1
KnownTranscripts = ℕ → List Entry → Type 0

-- the machines are well formed, and each stands at one of its states
pub record IsStanding (c : Core_data) : Type 0 where
  pub well_formed : AreWellFormed c.machines
  pub somewhere : (r : ℕ) → r < length c.machines → IsSome (state_at c.machines (configuration_of c) r)

-- role p's transcript is known to be no longer than can be counted
abbrev pub IsCounted : KnownTranscripts → ℕ → Type 0
IsCounted notes p = (t : List Entry) × notes p t × (length t < 2 ^ 63)

-- what was known is known still
abbrev pub StayNoted : KnownTranscripts → KnownTranscripts → Type 0
StayNoted old new = (r : ℕ) (t : List Entry) → old r t → new r t

-- role p's transcript is longer by the entry, and the others are known still
pub record IsLongerBy (p : ℕ) (e : Entry) (old new : KnownTranscripts) : Type 0 where
  pub adds : (t : List Entry) → old p t → new p (t ++ e ∷ [])
  pub others : (r : ℕ) (t : List Entry) → r ≢ p → old r t → new r t

-- role p's transcript is this one now, and the others are known still
pub record TurnIsNoted (p : ℕ) (transcript : List Entry) (old new : KnownTranscripts) : Type 0 where
  pub own : new p transcript
  pub others : (r : ℕ) (t : List Entry) → r ≢ p → old r t → new r t

-- the players' transcripts are those of their roles
abbrev pub AreTranscripts : {A : Type 0} → KnownTranscripts → List (Player A) → Type 0
AreTranscripts {A} notes xs = (p : ℕ) (x : Player A) → slice_get xs p ≡ Some x → notes p x.transcript

-- role p has sent its choice to the peer, whose queue had room
pub record IsPosted (capacity : Option ℕ) (c : Core_data) (p : ℕ) (peer : Role) (choice : Choice) (d : Core_data) : Type 0 where
  pub step : Sends c.machines (configuration_of c) p choice.0 choice.1 (configuration_of d)
  pub room : HasRoom capacity ((configuration_of c).queue p peer.0)
  pub machines : d.machines ≡ c.machines

-- the queue to the peer is full, and nothing has changed
pub record FindsItFull (capacity : Option ℕ) (c : Core_data) (p : ℕ) (peer : Role) (d : Core_data) : Type 0 where
  pub full : IsFull capacity ((configuration_of c).queue p peer.0)
  pub same : d ≡ c

-- what came of role p's send: it was made, or the value comes back from a full queue
abbrev pub PostTells : Option ℕ → Core_data → ℕ → Role → Choice → Core_data → Posted → Type 0
PostTells capacity c p peer choice d posted.Sent = IsPosted capacity c p peer choice d
PostTells capacity c p peer choice d (posted.Full value) = (value ≡ choice.1) × FindsItFull capacity c p peer d

-- and what is then known of the transcripts
abbrev pub PostNotes : (c : Core_data) (p : ℕ) (peer : Role) (choice : Choice) → KnownTranscripts → KnownTranscripts → Posted → Type 0
PostNotes c p peer choice old new posted.Sent = (can : CanChoose c p choice peer) → IsLongerBy p (entry.Sent peer can.arm.label) old new
PostNotes c p peer choice old new (posted.Full value) = StayNoted old new

-- at the state where role p takes, the arm at that place has the label
abbrev pub IsPlaceOf : Label → Core_data → ℕ → ℕ → Type 0
IsPlaceOf label c p place = (peer : Role) (arms : List Arm) → state_at c.machines (configuration_of c) p ≡ Some (Takes peer arms) → label_of (slice_get arms place) ≡ Some label

-- what came of role p's receive: the oldest message from the peer with the place of its arm, or none is there
abbrev pub FetchTells : Core_data → ℕ → Role → Core_data → Option GotBy → Type 0
FetchTells c p peer d None = ((configuration_of c).queue peer.0 p ≡ []) × (d ≡ c)
FetchTells c p peer d (Some g) =
    HasReceived c.machines (configuration_of c) p (configuration_of d) g.message × (d.machines ≡ c.machines) × IsPlaceOf g.message.label c p g.arm

-- and what is then known of the transcripts
abbrev pub FetchNotes : ℕ → Role → KnownTranscripts → KnownTranscripts → Option GotBy → Type 0
FetchNotes p peer old new None = StayNoted old new
FetchNotes p peer old new (Some g) = IsLongerBy p (entry.Got peer g.message.label g.message.value) old new

-- safe and well-formed machines at their start, in which no role has done anything
pub record IsFresh (notes : KnownTranscripts) (c : Core_data) : Type 0 where
  pub safe : IsSafe c.machines
  pub well_formed : AreWellFormed c.machines
  pub starts : StartsAt c.machines (configuration_of c)
  pub nothing : (r : ℕ) → r < length c.machines → notes r []
