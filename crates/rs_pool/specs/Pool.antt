-- Public: what a run by several workers says of the plain run, and what its rings are.
use Rattle.std.specs.Prelude.{◌≡◌, ◌⊎◌, ℕ, List, None, length}
use Rattle.rs_model.specs.Data.{Machine_data}
use Rattle.rs_core.specs.Actors.{Behaviour}
use Rattle.rs_core.specs.Configurations.{Configuration, IsReachable}
use Rattle.rs_core.specs.Determined.{PlainIs, WasStopped}
use Rattle.rs_core.specs.Plain.{IsStoppedEventually}
use Rattle.rs_core.specs.Runs.{EndingShows}
use Rattle.rs_core.specs.Safety.{AllEnded}
use Rattle.rs_core.specs.declared.runs.Outcome.{Outcome}
use Rattle.rs_core.specs.declared.runs.Outcome.TheVariants.{Ended, Stopped}
use Rattle.rs_room.specs.Bounded.{CanStepWithin}

-- the outcome and the actors that are left are those of the plain run over unbounded queues: where all have ended it has ended,
-- with the same transcripts and the same actors; if a role was stopped, it was stopped too, and that role reaches its limit
-- wherever all go on as long as they can
abbrev pub AgreesWithPlain : {A : Type 0} → List Machine_data → Behaviour A → (ℕ → A) → ℕ → Outcome → List A → Type 0
AgreesWithPlain machines b given limit (Ended transcripts) left = PlainIs machines b given limit None (λ o. EndingShows (length machines) o (Ended transcripts) left)
AgreesWithPlain machines b given limit (Stopped role) left = PlainIs machines b given limit None WasStopped × IsStoppedEventually machines b given limit role.0

-- two runs have the same result: both have ended, with the same transcripts and the same actors, or both are stopped
abbrev pub ComeToTheSame : {A : Type 0} → Outcome → List A → Outcome → List A → Type 0
ComeToTheSame (Ended one) left (Ended other) right = (one ≡ other) × (left ≡ right)
ComeToTheSame (Ended one) left (Stopped role) right = ⊥
ComeToTheSame (Stopped role) left (Ended other) right = ⊥
ComeToTheSame (Stopped one) left (Stopped other) right = Unit {0}

-- over rings of this capacity the roles are never all held up: in whatever configuration the machines are, some role can go on, or all
-- have ended
abbrev pub AreNeverHeldUp : List Machine_data → ℕ → Type 0
AreNeverHeldUp machines capacity = (c : Configuration) → IsReachable machines c → CanStepWithin machines capacity c ⊎ AllEnded machines c
