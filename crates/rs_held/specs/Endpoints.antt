-- Public: what the calls of endpoints tell.
use Rattle.std.specs.Prelude.{◌≡◌, ◌⊎◌, ℕ, ℤ, ◌<◌, ◌≤◌, ◌^◌, ◌++◌, List, [], ◌∷◌, Some, length, true, false}
use Rattle.rs_endpoints.specs.Endpoints.{Endpoint_data, FetchTells, GoesTo, HasArmFor, LookTells, MaySend, PostTells}
use Rattle.rs_endpoints.specs.declared.acts.Fetched.TheVariants as fetched
use Rattle.rs_endpoints.specs.declared.acts.Posted.TheVariants as posted
use Rattle.rs_endpoints.specs.declared.acts.Room.TheVariants as room
use Rattle.rs_model.specs.Sorts.{HasSort}
use Rattle.rs_model.specs.declared.graph.Label.{Label}
use Rattle.rs_model.specs.declared.values.Sort.{Sort}
use Rattle.rs_model.specs.declared.values.Value.{Value}
use Rattle.rs_model.specs.declared.values.Value.TheVariants as value
use Rattle.rs_numbered.specs.Copies.{CopyTells}
use Rattle.rs_numbered.specs.Messages.{view_of}
use Rattle.rs_numbered.specs.declared.statuses.CallStatus.{CallStatus}
use Rattle.rs_numbered.specs.declared.statuses.CallStatus.TheVariants.{Fine, Full, Empty, Gone, NotNow, NoMemory}
use Rattle.rs_numbered.specs.declared.messages.MessageView.{MessageView}
use Rattle.rs_rings.specs.Acts.{sent_act}
use Rattle.rs_session.specs.Acts.{SendsBy, parcel_by}
use Rattle.rs_session.specs.Data.{Stage_data}
use Rattle.rs_session.specs.Stages.{sight_of_stage}
use Rattle.rs_session.specs.declared.stages.Stage.{Stage}
use Rattle.rs_session.specs.declared.stages.Stage.TheVariants.{Sending}
use Rattle.rs_held.specs.declared.endpoint_handles.HeldEndpoint.{HeldEndpoint}

-- the label with this number
abbrev pub numbered : ℕ → Label
numbered label = record { 0 = label }

-- no label has the number, or no arm of the role's state has the label
abbrev pub HasNoArm : Endpoint_data → ℕ → Type 0
HasNoArm endpoint label = (2 ^ 16 ≤ label) ⊎ ((place : ℕ) → place < 2 ^ 16 → HasArmFor endpoint place (numbered label) → ⊥)

-- the role may not send the value with the label: it has no arm for it, or it may not send the value by the arm that has it
abbrev pub IsNoSend : Endpoint_data → ℕ → Value → Type 0
IsNoSend endpoint label v = HasNoArm endpoint label ⊎ ((place : ℕ) × HasArmFor endpoint place (numbered label) × (MaySend endpoint place v → ⊥))

-- Fine: the value was sent by an arm with the label. Full: the ring was full, and the role stands where it stood. NotNow: the role may
-- not send so, and nothing has changed
abbrev pub SendTells : Endpoint_data → ℕ → Value → Endpoint_data → CallStatus → Type 0
SendTells old label v new Fine = (place : ℕ) × HasArmFor old place (numbered label) × PostTells old place v new posted.Went
SendTells old label v new Full = (place : ℕ) × (back : Value) × HasArmFor old place (numbered label) × PostTells old place v new (posted.Full back)
SendTells old label v new NotNow = (new ≡ old) × IsNoSend old label v
SendTells old label v new _ = ⊥

-- the arm at that place has the label and is of a sort that the value has, and the role saw that the ring had room for it: `seen`
-- stands where the role stood
abbrev pub SeesRoom : Endpoint_data → ℕ → ℕ → Value → Endpoint_data → Type 0
SeesRoom old label place v seen = (sort : Sort) × HasSort v sort × HasArmFor old place (numbered label) × LookTells old place sort seen room.Free

-- the role sends, and has made 2^63 acts: it makes no more
abbrev pub HasMadeAllActs : Endpoint_data → Type 0
HasMadeAllActs endpoint = (stage : Stage_data) × (endpoint.stage ≡ Some (Sending stage)) × (2 ^ 63 ≤ length stage.part.history)

-- the same of a value that is copied once there is room for it. Fine: room was seen, and the copy was sent. NoMemory: room was seen, and
-- memory for the copy was refused. Full and NotNow: as above, before memory was asked for; or NotNow: room was seen, and the role makes
-- no more acts
abbrev pub CopySendTells : Endpoint_data → ℕ → Value → Endpoint_data → CallStatus → Type 0
CopySendTells old label v new Fine = (place : ℕ) × (seen : Endpoint_data) × SeesRoom old label place v seen × PostTells seen place v new posted.Went
CopySendTells old label v new NoMemory = (place : ℕ) × SeesRoom old label place v new
CopySendTells old label v new NotNow = SendTells old label v new NotNow ⊎ ((place : ℕ) × SeesRoom old label place v new × HasMadeAllActs new)
CopySendTells old label v new status = SendTells old label v new status

-- the role has made one act more: it has sent the value by the arm at that place, and stands at the state to which that leads
pub record HasSentOne (old : Endpoint_data) (place : ℕ) (v : Value) (new : Endpoint_data) : Type 0 where
  pub stage : Stage_data
  pub next : Stage
  pub stood : old.stage ≡ Some (Sending stage)
  pub by : SendsBy old.session stage place v
  pub goes : GoesTo old new next
  pub history : (sight_of_stage next).part.history ≡ stage.part.history ++ sent_act by.peer.0 (parcel_by by.arm v) ∷ []
  pub state : (sight_of_stage next).part.state ≡ by.arm.next

-- Fine: a value came, is kept, and is shown with its label. Empty: the ring was empty. Gone: so it was, and nothing will come. NotNow:
-- the role may not receive, and nothing has changed. But for Fine the role stands where it stood, the value that was kept is, and
-- nothing is shown
abbrev pub ReceiveTells : HeldEndpoint → HeldEndpoint → MessageView → MessageView → CallStatus → Type 0
ReceiveTells before after old new Fine = (label : Label) × FetchTells before.endpoint after.endpoint (fetched.Got label after.last) × (new ≡ view_of label after.last)
ReceiveTells before after old new Empty = FetchTells before.endpoint after.endpoint (fetched.Empty false) × (after.last ≡ before.last) × (new ≡ old)
ReceiveTells before after old new Gone = FetchTells before.endpoint after.endpoint (fetched.Empty true) × (after.last ≡ before.last) × (new ≡ old)
ReceiveTells before after old new NotNow = FetchTells before.endpoint after.endpoint fetched.Refused × (after.last ≡ before.last) × (new ≡ old)
ReceiveTells before after old new _ = ⊥

-- the bytes of the value are handed out, or where it has none nothing is written, and the status is NotNow
abbrev pub OctetsTell : Value → List ℕ → List ℕ → ℕ → ℕ → CallStatus → Type 0
OctetsTell (value.Octets bytes) old new written_old written status = CopyTells bytes old new written status
OctetsTell _ old new written_old written status = (status ≡ NotNow) × (new ≡ old) × (written ≡ written_old)

-- the same of its numbers
abbrev pub NumbersTell : Value → List ℤ → List ℤ → ℕ → ℕ → CallStatus → Type 0
NumbersTell (value.Numbers items) old new written_old written status = CopyTells items old new written status
NumbersTell _ old new written_old written status = (status ≡ NotNow) × (new ≡ old) × (written ≡ written_old)
