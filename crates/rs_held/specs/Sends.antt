-- Steps: sends by the place of an arm.
use Rattle.std.specs.Prelude.{◌≡◌, ℕ}
use Rattle.rs_endpoints.specs.Endpoints.{Endpoint_data, MaySend, PostTells}
use Rattle.rs_endpoints.specs.declared.acts.Posted.TheVariants as posted
use Rattle.rs_model.specs.Sorts.{HasSort}
use Rattle.rs_model.specs.declared.values.Sort.{Sort}
use Rattle.rs_model.specs.declared.values.Value.{Value}
use Rattle.rs_held.specs.Endpoints.{SendTells}
use Rattle.rs_numbered.specs.declared.statuses.CallStatus.{CallStatus}
use Rattle.rs_numbered.specs.declared.statuses.CallStatus.TheVariants.{Fine, Full, NotNow}

-- what a send by the arm at that place tells, as a status
abbrev pub SendByTells : Endpoint_data → ℕ → Value → Endpoint_data → CallStatus → Type 0
SendByTells old place v new Fine = PostTells old place v new posted.Went
SendByTells old place v new Full = (back : Value) × PostTells old place v new (posted.Full back)
SendByTells old place v new NotNow = (new ≡ old) × (MaySend old place v → ⊥)
SendByTells old place v new _ = ⊥

-- the value has this sort, and no other
abbrev pub HasSortAlone : Value → Sort → Type 0
HasSortAlone v sort = HasSort v sort × ((other : Sort) → HasSort v other → other ≡ sort)

-- why no value of the sort is sent with the label, told as a status, before there is a value: what the send of each would tell
abbrev pub NoRoomTells : Endpoint_data → ℕ → Sort → Endpoint_data → CallStatus → Type 0
NoRoomTells old label sort new Full = (v : Value) → HasSortAlone v sort → SendTells old label v new Full
NoRoomTells old label sort new NotNow = (v : Value) → HasSortAlone v sort → SendTells old label v new NotNow
NoRoomTells old label sort new _ = ⊥
