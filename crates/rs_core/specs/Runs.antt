-- Public: what a session and its players say of a moment of the plain run, and what a run shows of its outcome.
use Rattle.std.specs.Prelude.{◌≡◌, ℕ, ◌+◌, ◌<◌, List, [], ◌∷◌, Option, Some, None, slice_get, length, map, if◌then◌else◌, ◌==◌, suc}
use Rattle.rs_model.specs.Data.{Machine_data}
use Rattle.rs_model.specs.declared.graph.Role.{Role}
use Rattle.rs_core.specs.Actors.{Choice, Behaviour}
use Rattle.rs_core.specs.Core.{Core_data, configuration_of}
use Rattle.rs_core.specs.Histories.{History, transcript_of}
use Rattle.rs_core.specs.Plain as plain
use Rattle.rs_core.specs.Plain.{Moment, FirstFull}
use Rattle.rs_core.specs.declared.players.Player.{Player}
use Rattle.rs_core.specs.declared.playing.End.{End}
use Rattle.rs_core.specs.declared.playing.End.TheVariants as end
use Rattle.rs_core.specs.declared.runs.Outcome.{Outcome}
use Rattle.rs_core.specs.declared.runs.Outcome.TheVariants as outcome
use Rattle.rs_core.specs.declared.runs.RunFault.{RunFault}
use Rattle.rs_core.specs.declared.runs.RunFault.TheVariants as fault
use Rattle.rs_core.specs.declared.transcripts.Entry.{Entry}
use Rattle.rs_core.specs.declared.transcripts.Entry.TheVariants as entry

-- the list has each role's player: its actor, what it keeps, and what the role has done
pub record ArePlayers {A : Type 0} (roles : ℕ) (h : ℕ → History) (f : ℕ → A) (o : ℕ → Option Choice) (xs : List (Player A)) : Type 0 where
  pub many : length xs ≡ roles
  pub actor : (p : ℕ) (x : Player A) → slice_get xs p ≡ Some x → f p ≡ x.actor
  pub kept : (p : ℕ) (x : Player A) → slice_get xs p ≡ Some x → o p ≡ x.kept
  pub transcript : (p : ℕ) (x : Player A) → slice_get xs p ≡ Some x → transcript_of (h p) ≡ x.transcript

-- the list has the actor that is given to each role
abbrev pub IsGiven : {A : Type 0} → (ℕ → A) → List A → Type 0
IsGiven {A} given xs = (p : ℕ) (x : A) → slice_get xs p ≡ Some x → given p ≡ x

-- the players are those of the outcome, and the end is its end
abbrev pub EndShows : {A : Type 0} → List Machine_data → Option ℕ → plain.Ending A → End → List (Player A) → Type 0
EndShows machines capacity (plain.Ended k) end.Ended xs = ArePlayers (length machines) k.history k.actor k.kept xs
EndShows machines capacity (plain.Stopped p k) (end.Stopped role) xs = (p ≡ role.0) × ArePlayers (length machines) k.history k.actor k.kept xs
EndShows machines capacity (plain.Stuck k) (end.Full sender receiver) xs =
    FirstFull machines capacity k sender.0 receiver × ArePlayers (length machines) k.history k.actor k.kept xs
EndShows machines capacity _ _ xs = ⊥

-- the moment at which a run ends
abbrev pub last_moment : {A : Type 0} → plain.Ending A → Moment A
last_moment (plain.Ended k) = k
last_moment (plain.Stopped p k) = k
last_moment (plain.Stuck k) = k

-- the rounds ended as the plain run does: with this outcome, at this session
pub record EndsAs {A : Type 0} (b : Behaviour A) (ms : List Machine_data) (given : ℕ → A) (limit : ℕ) (capacity : Option ℕ) (c : Core_data) (e : End) (xs : List (Player A)) : Type 0 where
  pub outcome : plain.Ending A
  pub plain : plain.IsPlain ms b given limit capacity outcome
  pub shows : EndShows ms capacity outcome e xs
  pub last : configuration_of c ≡ (last_moment outcome).at

-- the sender and the receiver of a full queue are among so many roles
abbrev pub IsAmong : ℕ → End → Type 0
IsAmong roles (end.Full sender receiver) = (sender.0 < roles) × (receiver.0 < roles)
IsAmong roles _ = Unit {0}

-- the rounds of these actors have come to the session c with its players, and to this end
pub record HasPlayed {A : Type 0} (b : Behaviour A) (ms : List Machine_data) (limit : ℕ) (capacity : Option ℕ) (actors : List A) (c : Core_data) (e : End) (xs : List (Player A)) : Type 0 where
  pub plain : (given : ℕ → A) → IsGiven given actors → EndsAs b ms given limit capacity c e xs
  pub machines : c.machines ≡ ms
  pub many : length xs ≡ length ms
  pub among : IsAmong (length xs) e

-- how many messages a transcript sends to q
abbrev pub sent_to : ℕ → List Entry → ℕ
sent_to q [] = 0
sent_to q (entry.Sent peer label ∷ xs) = if peer.0 == q then suc (sent_to q xs) else sent_to q xs
sent_to q (entry.Got peer label value ∷ xs) = sent_to q xs

-- how many messages a transcript takes from q
abbrev pub got_from : ℕ → List Entry → ℕ
got_from q [] = 0
got_from q (entry.Sent peer label ∷ xs) = got_from q xs
got_from q (entry.Got peer label value ∷ xs) = if peer.0 == q then suc (got_from q xs) else got_from q xs

-- the outcome and the actors are those of the players at this end
abbrev pub RunShows : {A : Type 0} → End → List (Player A) → Outcome → List A → Type 0
RunShows {A} end.Ended xs out actors = (out ≡ outcome.Ended (map (λ (x : Player A). x.transcript) xs)) × (actors ≡ map (λ (x : Player A). x.actor) xs)
RunShows {A} (end.Stopped role) xs out actors = (out ≡ outcome.Stopped role) × (actors ≡ map (λ (x : Player A). x.actor) xs)
RunShows (end.Full sender receiver) xs out actors = ⊥

-- the transcript of the player, where there is one
abbrev pub transcript_in : {A : Type 0} → Option (Player A) → List Entry
transcript_in None = []
transcript_in (Some x) = x.transcript

-- the transcript of the player at place p
abbrev pub transcript_at : {A : Type 0} → List (Player A) → ℕ → List Entry
transcript_at xs p = transcript_in (slice_get xs p)

-- the fault tells of the queue that is full at this end
abbrev pub FaultShows : {A : Type 0} → End → List (Player A) → RunFault → Type 0
FaultShows e xs fault.NoMemory = Unit {0}
FaultShows e xs (fault.Full sender receiver sent taken) = (e ≡ end.Full sender receiver)
    × (sent ≡ sent_to receiver.0 (transcript_at xs sender.0)) × (taken ≡ got_from sender.0 (transcript_at xs receiver.0))

-- the list has each role's actor
pub record HasActors {A : Type 0} (roles : ℕ) (actor : ℕ → A) (xs : List A) : Type 0 where
  pub many : length xs ≡ roles
  pub each : (p : ℕ) → p < roles → slice_get xs p ≡ Some (actor p)

-- the list has each role's transcript
pub record HasTranscripts (roles : ℕ) (history : ℕ → History) (xs : List (List Entry)) : Type 0 where
  pub many : length xs ≡ roles
  pub each : (p : ℕ) → p < roles → slice_get xs p ≡ Some (transcript_of (history p))

-- a run with this outcome and these actors: all have ended, with these transcripts; or this role is at its limit
abbrev pub EndingShows : {A : Type 0} → ℕ → plain.Ending A → Outcome → List A → Type 0
EndingShows roles (plain.Ended k) (outcome.Ended transcripts) actors = HasTranscripts roles k.history transcripts × HasActors roles k.actor actors
EndingShows roles (plain.Stopped p k) (outcome.Stopped role) actors = (p ≡ role.0) × HasActors roles k.actor actors
EndingShows roles _ _ actors = ⊥

-- the plain run with queues of this capacity is stuck: the first sender in order finds its queue full, into which it has
-- sent so many and from which the receiver has taken so many, which is the capacity less
pub record IsFullAt {A : Type 0} (machines : List Machine_data) (b : Behaviour A) (actors : ℕ → A) (limit capacity : ℕ) (sender receiver : Role) (sent taken : ℕ) : Type 0 where
  pub end : Moment A
  pub plain : plain.IsPlain machines b actors limit (Some capacity) (plain.Stuck end)
  pub full : FirstFull machines (Some capacity) end sender.0 receiver
  pub is_sent : sent ≡ sent_to receiver.0 (transcript_of (end.history sender.0))
  pub is_taken : taken ≡ got_from sender.0 (transcript_of (end.history receiver.0))
  pub apart : sent ≡ taken + capacity

-- what a fault of a run says
abbrev pub FaultTells : {A : Type 0} → List Machine_data → Behaviour A → (ℕ → A) → ℕ → ℕ → RunFault → Type 0
FaultTells machines b actors limit capacity (fault.Full sender receiver sent taken) = IsFullAt machines b actors limit capacity sender receiver sent taken
FaultTells machines b actors limit capacity fault.NoMemory = Unit {0}
