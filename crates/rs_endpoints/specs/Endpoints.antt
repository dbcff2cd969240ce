-- Public: what contracts see of endpoints, and what their acts tell.
use Rattle.std.specs.Prelude.{◌≡◌, ℕ, ◌<◌, ◌^◌, Bool, List, [], Option, Some, None, true, false, length, slice_get}
use Rattle.rs_model.specs.Data.{Machine_data}
use Rattle.rs_model.specs.declared.graph.Arm.{Arm}
use Rattle.rs_model.specs.declared.graph.Label.{Label}
use Rattle.rs_model.specs.declared.graph.Role.{Role}
use Rattle.rs_model.specs.declared.machines.State.{State}
use Rattle.rs_model.specs.declared.machines.State.TheVariants.{Puts}
use Rattle.rs_model.specs.declared.values.Sort.{Sort}
use Rattle.rs_model.specs.declared.values.Value.{Value}
use Rattle.rs_core.specs.Choosable.{label_of}
use Rattle.rs_rings.specs.Acts.{parcels_sent, parcels_got}
use Rattle.rs_rings.specs.Closed.{IsLeft, loose_in}
use Rattle.rs_rings.specs.Passes.{Rings_data}
use Rattle.rs_slots.specs.Places.{ring_count}
use Rattle.rs_session.specs.Acts.{SendsBy, ReceivesBy, RoomTells, IsSent, IsHandedBack, IsGot, IsKept}
use Rattle.rs_session.specs.Data.{Stage_data}
use Rattle.rs_session.specs.Stages.{IsOf, IsReceiving, first_stage, sight_of_stage, state_of_stage}
use Rattle.rs_session.specs.declared.leaving.LeftOver.{LeftOver}
use Rattle.rs_session.specs.declared.stages.Stage.{Stage}
use Rattle.rs_session.specs.declared.stages.Stage.TheVariants.{Sending, Receiving}
use Rattle.rs_endpoints.specs.declared.acts.Posted.{Posted}
use Rattle.rs_endpoints.specs.declared.acts.Posted.TheVariants as posted
use Rattle.rs_endpoints.specs.declared.acts.Fetched.{Fetched}
use Rattle.rs_endpoints.specs.declared.acts.Fetched.TheVariants as fetched
use Rattle.rs_endpoints.specs.declared.acts.Room.{Room}
use Rattle.rs_endpoints.specs.declared.acts.Room.TheVariants as room

-- what contracts see of an endpoint: its session, and its role's stage
pub record Endpoint_data : Type 0 where
  pub session : Rings_data
  pub stage : Option Stage

-- there is a stage, and it is one of the session; it holds of each endpoint
abbrev pub IsWhole : Rings_data → Option Stage → Type 0
IsWhole session None = ⊥
IsWhole session (Some stage) = IsOf session stage

-- the endpoint of the session whose role stands at the stage
abbrev pub endpoint_at : Rings_data → Stage → Option Endpoint_data
endpoint_at session stage = Some record { session = session; stage = Some stage }

-- the endpoint plays this role
abbrev pub IsOfRole : Endpoint_data → Role → Type 0
IsOfRole endpoint role = (stage : Stage) × (endpoint.stage ≡ Some stage) × ((sight_of_stage stage).role ≡ role)

-- the endpoint's role stands at that state of its machine
abbrev pub StandsAt : Endpoint_data → State → Type 0
StandsAt endpoint state = (stage : Stage) × (endpoint.stage ≡ Some stage) × (state_of_stage endpoint.session (sight_of_stage stage) ≡ Some state)

-- the role's state sends, and the arm at that place has the label
abbrev pub HasArmFor : Endpoint_data → ℕ → Label → Type 0
HasArmFor endpoint place label = (peer : Role) × (arms : List Arm) × StandsAt endpoint (Puts peer arms) × (label_of (slice_get arms place) ≡ Some label)

-- the role may send the value by the arm at that place: its state sends by it, and its acts so far can be counted on
pub record MaySend (endpoint : Endpoint_data) (place : ℕ) (value : Value) : Type 0 where
  pub stage : Stage_data
  pub stands : endpoint.stage ≡ Some (Sending stage)
  pub by : SendsBy endpoint.session stage place value
  pub acts : length stage.part.history < 2 ^ 63

-- the stage stands at a state that sends to the peer, and the arm at that place is of the sort
pub record SendsSort (session : Rings_data) (stage : Stage_data) (place : ℕ) (sort : Sort) : Type 0 where
  pub peer : Role
  pub arms : List Arm
  pub arm : Arm
  pub stands : state_of_stage session stage ≡ Some (Puts peer arms)
  pub picks : slice_get arms place ≡ Some arm
  pub of_sort : arm.sort ≡ sort

-- the role may look for room for a value of the sort: its state sends one by the arm at that place, and its acts so far can be
-- counted on
pub record MayLook (endpoint : Endpoint_data) (place : ℕ) (sort : Sort) : Type 0 where
  pub stage : Stage_data
  pub stands : endpoint.stage ≡ Some (Sending stage)
  pub by : SendsSort endpoint.session stage place sort
  pub acts : length stage.part.history < 2 ^ 63

-- the role may receive
pub record MayReceive (endpoint : Endpoint_data) : Type 0 where
  pub stage : Stage_data
  pub stands : endpoint.stage ≡ Some (Receiving stage)
  pub acts : length stage.part.history < 2 ^ 63

-- the endpoint's session is as it was, and its role stands at the stage
pub record GoesTo (old new : Endpoint_data) (stage : Stage) : Type 0 where
  pub session : new.session ≡ old.session
  pub stands : new.stage ≡ Some stage

-- what a send by the arm at that place tells: it went; the ring was full, and the value comes back; or the role may not send so,
-- the value comes back, and nothing has changed
abbrev pub PostTells : Endpoint_data → ℕ → Value → Endpoint_data → Posted → Type 0
PostTells old place value new posted.Went = (stage : Stage_data) × (next : Stage) × (old.stage ≡ Some (Sending stage)) × IsSent old.session stage place value next × GoesTo old new next
PostTells old place value new (posted.Full back) =
    (stage : Stage_data) × (same : Stage_data) × (sent : ℕ) × (taken : ℕ) × (old.stage ≡ Some (Sending stage)) × IsHandedBack old.session stage place value same back sent taken × GoesTo old new (Sending same)
PostTells old place value new (posted.Refused back) = (back ≡ value) × (new ≡ old) × (MaySend old place value → ⊥)

-- the role looked for room, and stands at the same state: only what is known of the ring has changed
pub record HasLooked (old : Endpoint_data) (place : ℕ) (sort : Sort) (new : Endpoint_data) (found : Bool) : Type 0 where
  pub stage : Stage_data
  pub seen : Stage_data
  pub stands : old.stage ≡ Some (Sending stage)
  pub by : SendsSort old.session stage place sort
  pub told : RoomTells old.session stage seen found
  pub goes : GoesTo old new (Sending seen)

-- what a look for room tells: there is room; the ring was full; or the role may not send a value of the sort by the arm at that
-- place, and nothing has changed
abbrev pub LookTells : Endpoint_data → ℕ → Sort → Endpoint_data → Room → Type 0
LookTells old place sort new room.Free = HasLooked old place sort new true
LookTells old place sort new room.Full = HasLooked old place sort new false
LookTells old place sort new room.Refused = (new ≡ old) × (MayLook old place sort → ⊥)

-- nothing will come to the role any more: the pass of the peer from which it receives was given up, and lies with the session; it
-- has sent so many parcels to the role as the role has got
pub record IsSpent (session : Rings_data) (stage : Stage_data) : Type 0 where
  pub from : IsReceiving session stage
  pub left : Stage_data
  pub table : left.table ≡ session.table
  pub role : left.role ≡ from.peer
  pub all : length (parcels_sent stage.role.0 left.part.history) ≡ length (parcels_got from.peer.0 stage.part.history)

-- what a receive tells: a value came, by the arm with this label; the ring was empty, and where `is_gone` nothing will come; or the
-- role may not receive, and nothing has changed
abbrev pub FetchTells : Endpoint_data → Endpoint_data → Fetched → Type 0
FetchTells old new (fetched.Got label value) =
    (stage : Stage_data) × (place : ℕ) × (next : Stage) × (by : ReceivesBy old.session stage place value) × (by.arm.label ≡ label) × (old.stage ≡ Some (Receiving stage)) × IsGot old.session stage place value next
    × GoesTo old new next
FetchTells old new (fetched.Empty is_gone) =
    (stage : Stage_data) × (same : Stage_data) × (seen : ℕ) × (old.stage ≡ Some (Receiving stage)) × IsKept old.session stage same seen × GoesTo old new (Receiving same) × (is_gone ≡ true → IsSpent old.session stage)
FetchTells old new fetched.Refused = (new ≡ old) × (MayReceive old → ⊥)

-- an endpoint of the session for each of its roles, in role order, and each stands at its machine's start and has done nothing; the
-- session is one of these machines over rings of that capacity
pub record AreBegun (machines : List Machine_data) (capacity : ℕ) (endpoints : List (Option Endpoint_data)) : Type 0 where
  pub session : Rings_data
  pub machines_are : session.machines ≡ machines
  pub capacity_is : session.capacity ≡ capacity
  pub count : length endpoints ≡ length machines
  pub each : (r : ℕ) → r < length machines
      → (stage : Stage) × (slice_get endpoints r ≡ Some (endpoint_at session stage)) × IsOf session stage × (sight_of_stage stage ≡ first_stage session r)

-- what is left of the session: the histories of all roles, which are legal, and the parcels that were under way, ordered by
-- sender, then by receiver, then the oldest first
pub record IsLeftOf (session : Rings_data) (left : LeftOver) : Type 0 where
  pub machines_are : left.closed.machines ≡ session.machines
  pub capacity_is : left.closed.capacity ≡ session.capacity
  pub legal : IsLeft left.closed
  pub loose : left.loose.items ≡ loose_in left.closed.last (length session.machines) (ring_count (length session.machines))
