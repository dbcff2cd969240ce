-- Steps: what the stages of a stream do, and the bytes in their histories.
use Rattle.std.specs.Prelude.{◌≡◌, ℕ, List, [], ◌∷◌, ◌++◌, Bool, true, flat_map, IfSome, Option, None, Some}
use Rattle.rs_core.specs.Histories.{Action, History}
use Rattle.rs_model.specs.declared.graph.Arm.{Arm}
use Rattle.rs_model.specs.declared.graph.Label.{Label}
use Rattle.rs_model.specs.declared.graph.Role.{Role}
use Rattle.rs_model.specs.declared.machines.State.TheVariants.{Takes}
use Rattle.rs_model.specs.declared.values.Value.{Value}
use Rattle.rs_model.specs.declared.values.Value.TheVariants as value
use Rattle.rs_rings.specs.Acts.{parcels_got, parcels_sent}
use Rattle.rs_rings.specs.Passes.{Rings_data}
use Rattle.rs_session.specs.Acts.{SendsBy}
use Rattle.rs_session.specs.Data.{Stage_data}
use Rattle.rs_session.specs.Stages.{IsEnded, IsOf, sight_of_stage, state_of_stage}
use Rattle.rs_session.specs.declared.stages.Stage.{Stage}
use Rattle.rs_slots.specs.declared.parcels.Parcel.{Parcel}

-- the bytes that a parcel carries
abbrev pub bytes_of_value : Value → List ℕ
bytes_of_value (value.Octets bytes) = bytes
bytes_of_value other = []

-- the bytes of these parcels, one after the other
abbrev pub bytes_in : List Parcel → List ℕ
bytes_in parcels = flat_map (λ (x : Parcel). bytes_of_value x.value) parcels

-- the bytes that a role has sent to q, by its history
abbrev pub bytes_sent : ℕ → History → List ℕ
bytes_sent q h = bytes_in (parcels_sent q h)

-- the bytes that a role has got from p
abbrev pub bytes_got : ℕ → History → List ℕ
bytes_got p h = bytes_in (parcels_got p h)

-- the stage's state sends to the peer, by an arm at that place for the value
abbrev pub SendsTo : Rings_data → Stage_data → Role → ℕ → Value → Type 0
SendsTo session stage peer place value = (by : SendsBy session stage place value) × (by.peer ≡ peer)

-- the stage's state receives from the peer
abbrev pub TakesFrom : Rings_data → Stage_data → Role → Type 0
TakesFrom session stage peer = (arms : List Arm) × (state_of_stage session stage ≡ Some (Takes peer arms))

-- what the stage's role has done
abbrev pub history_at : Stage → History
history_at stage = (sight_of_stage stage).part.history

-- the stage has gone on to another of the session and its role by these acts
pub record GoesBy (session : Rings_data) (old new : Stage) (acts : History) : Type 0 where
  pub of : IsOf session new
  pub role : (sight_of_stage new).role ≡ (sight_of_stage old).role
  pub history : history_at new ≡ history_at old ++ acts

-- it has gone on by one act, with some label
abbrev pub Goes : Rings_data → Stage → Stage → (Label → Action) → Type 0
Goes session old new act = (label : Label) × GoesBy session old new (act label ∷ [])

-- a stage of the session and of the role with that number
pub record IsAt (session : Rings_data) (r : ℕ) (stage : Stage) : Type 0 where
  pub of : IsOf session stage
  pub role : (sight_of_stage stage).role.0 ≡ r

-- the place has the role's first stage, which has done nothing
abbrev pub IsPlaceOf : Rings_data → ℕ → Option Stage → Type 0
IsPlaceOf session r None = ⊥
IsPlaceOf session r (Some stage) = IsAt session r stage × (history_at stage ≡ [])

-- the role with that number has ended
pub record HasEndedAs (session : Rings_data) (r : ℕ) (ended : Stage_data) : Type 0 where
  pub at_end : IsEnded session ended
  pub role : ended.role.0 ≡ r

-- the source has ended, and if it is whole it has given these bytes to the kernel
pub record Gives (session : Rings_data) (bytes : List ℕ) (ended : Stage_data) (is_whole : Bool) : Type 0 where
  pub ends : HasEndedAs session 0 ended
  pub gives : is_whole ≡ true → bytes_sent 1 ended.part.history ≡ bytes

-- the kernel has ended, and has handed on to the sink what it got from the source
pub record HandsOn (session : Rings_data) (ended : Stage_data) : Type 0 where
  pub ends : HasEndedAs session 1 ended
  pub same : bytes_sent 2 ended.part.history ≡ bytes_got 0 ended.part.history

-- the sink has ended, and these bytes, if there are any, are those that it got from the kernel
pub record Gathers (session : Rings_data) (ended : Stage_data) (bytes : Option (List ℕ)) : Type 0 where
  pub ends : HasEndedAs session 2 ended
  pub gathers : IfSome bytes (λ b. b ≡ bytes_got 1 ended.part.history)
