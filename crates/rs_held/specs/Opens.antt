-- Public: calls on what is open behind a handle.
use Rattle.std.specs.Prelude.{◌≡◌, Option, Some, None}
use Rattle.rs_numbered.specs.declared.statuses.CallStatus.{CallStatus}
use Rattle.rs_numbered.specs.declared.statuses.CallStatus.TheVariants.{Closed, Fine}

-- a call that changes nothing behind the handle: where nothing is open it says so and has written nothing; else this is told
abbrev pub Reads : {A : Type 0} → Option A → Option A → Type 0 → (A → Type 0) → CallStatus → Type 0
Reads None new unwritten Tells status = (new ≡ None) × (status ≡ Closed) × unwritten
Reads (Some held) new unwritten Tells status = (new ≡ Some held) × Tells held

-- a call on what is open behind the handle: where nothing is open it says so and has written nothing; else what is open before and
-- after the call is told of
abbrev pub Changes : {A : Type 0} → Option A → Option A → Type 0 → (A → A → Type 0) → CallStatus → Type 0
Changes None new unwritten Tells status = (new ≡ None) × (status ≡ Closed) × unwritten
Changes {A} (Some before) new unwritten Tells status = (after : A) × (new ≡ Some after) × Tells before after

-- a call that frees what is open behind the handle
abbrev pub Closes : {A : Type 0} → Option A → Option A → CallStatus → Type 0
Closes None new status = (new ≡ None) × (status ≡ Closed)
Closes (Some held) new status = (new ≡ None) × (status ≡ Fine)
