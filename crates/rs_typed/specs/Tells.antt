-- Public: what the calls of endpoints tell: the acts of stages, on the arm that the type names.
use Rattle.std.specs.Prelude.{◌≡◌, ℕ}
use Rattle.rs_model.specs.Data.{Machine_data}
use Rattle.rs_model.specs.declared.graph.Arm.{Arm}
use Rattle.rs_model.specs.declared.graph.Role.{Role}
use Rattle.rs_model.specs.declared.values.Value.{Value}
use Rattle.rs_rings.specs.Passes.{Rings_data}
use Rattle.rs_session.specs.Acts.{IsSent, IsHandedBack, IsGot, IsKept}
use Rattle.rs_session.specs.Stages.{sight_of_stage}
use Rattle.rs_session.specs.declared.stages.Stage.{Stage}
use Rattle.rs_typed.specs.Endpoints.{IsEndpoint}
use Rattle.rs_typed.specs.declared.answers.TypedSent.{TypedSent}
use Rattle.rs_typed.specs.declared.answers.TypedSent.TheVariants as sent
use Rattle.rs_typed.specs.declared.answers.TypedOne.{TypedOne}
use Rattle.rs_typed.specs.declared.answers.TypedOne.TheVariants as one
use Rattle.rs_typed.specs.declared.answers.TypedTwo.{TypedTwo}
use Rattle.rs_typed.specs.declared.answers.TypedTwo.TheVariants as two

-- the stage sent the value to the peer by that arm, which stands at the place, and became the new stage
pub record SendsAt (session : Rings_data) (machine : Machine_data) (peer : Role) (place : ℕ) (arm : Arm) (value : Value) (old new : Stage) : Type 0 where
  pub sent : IsSent session (sight_of_stage old) place value new
  pub to : sent.by.peer ≡ peer
  pub by : sent.by.arm ≡ arm
  pub is : IsEndpoint session machine new

-- the stage found the ring to the peer full, by that arm, and came back
pub record FullAt (session : Rings_data) (machine : Machine_data) (peer : Role) (place : ℕ) (arm : Arm) (value : Value) (sent taken : ℕ) (old new : Stage) : Type 0 where
  pub kept : IsHandedBack session (sight_of_stage old) place value (sight_of_stage new) value sent taken
  pub to : kept.by.peer ≡ peer
  pub by : kept.by.arm ≡ arm
  pub is : IsEndpoint session machine new

-- the stage got the value from the peer by that arm, which stands at the place, and became the new stage
pub record GetsAt (session : Rings_data) (machine : Machine_data) (peer : Role) (place : ℕ) (arm : Arm) (value : Value) (old new : Stage) : Type 0 where
  pub got : IsGot session (sight_of_stage old) place value new
  pub from : got.by.peer ≡ peer
  pub by : got.by.arm ≡ arm
  pub is : IsEndpoint session machine new

-- the stage found the ring from the peer empty, and came back
pub record EmptyAt (session : Rings_data) (machine : Machine_data) (peer : Role) (seen : ℕ) (old new : Stage) : Type 0 where
  pub kept : IsKept session (sight_of_stage old) (sight_of_stage new) seen
  pub from : kept.from.peer ≡ peer
  pub is : IsEndpoint session machine new

module _ (session : Rings_data) (machine : Machine_data) (peer : Role) (old : Stage) where
  -- what a send of the value tells, by the arm at that place
  abbrev pub SentTells : {S N V A B : Type 0} → (V → Value) → ℕ → Arm → V → TypedSent S N V A B → Type 0
  SentTells packed place arm value (sent.Went at) = SendsAt session machine peer place arm (packed value) old at
  SentTells packed place arm value (sent.Full at back n taken) =
      (back ≡ value) × FullAt session machine peer place arm (packed value) n taken old at

  -- what a receive tells at a state that receives one label
  abbrev pub OneTells : {S N V A B : Type 0} → (Value → V) → Arm → TypedOne S N V A B → Type 0
  OneTells unpacked arm (one.Got value at) =
      (parcel : Value) × (value ≡ unpacked parcel) × GetsAt session machine peer 0 arm parcel old at
  OneTells unpacked arm (one.Empty at seen) = EmptyAt session machine peer seen old at

  -- what a receive tells at a state that receives two labels
  abbrev pub TwoTells : {S M V N W A B C : Type 0} → (Value → V) → Arm → (Value → W) → Arm → TypedTwo S M V N W A B C → Type 0
  TwoTells unpacked first opened second (two.First value at) =
      (parcel : Value) × (value ≡ unpacked parcel) × GetsAt session machine peer 0 first parcel old at
  TwoTells unpacked first opened second (two.Second value at) =
      (parcel : Value) × (value ≡ opened parcel) × GetsAt session machine peer 1 second parcel old at
  TwoTells unpacked first opened second (two.Empty at seen) = EmptyAt session machine peer seen old at
