-- Public: sessions that are opened and begun, and their endpoints that are handed out.
use Rattle.std.specs.Prelude.{◌≡◌, ℕ, ◌&&◌, List, Option, Some, None, if◌then◌else◌, min, nat_le, slice_get, slice_set}
use Rattle.rs_answers.specs.declared.verdicts.Verdict.{Verdict}
use Rattle.rs_answers.specs.declared.verdicts.Verdict.TheVariants as verdict
use Rattle.rs_endpoints.specs.Endpoints.{AreBegun, Endpoint_data}
use Rattle.rs_model.specs.declared.limits.TheConstants.{DEFAULT_BOUND, MOST_CAPACITY}
use Rattle.rs_model.specs.declared.values.Value.TheVariants.{Unit as NoValue}
use Rattle.rs_open.specs.Opening.{IsCertifiedText}
use Rattle.rs_safety.specs.Room.{room_of}
use Rattle.rs_numbered.specs.declared.statuses.CallStatus.{CallStatus}
use Rattle.rs_numbered.specs.declared.statuses.CallStatus.TheVariants.{Fine, Refused, Malformed, Unprojectable, TooLarge, NoMemory, Unknown, HandedOut}
use Rattle.rs_held.specs.Refusals.{IsExplained}
use Rattle.rs_held.specs.declared.endpoint_handles.HeldEndpoint.{HeldEndpoint}
use Rattle.rs_held.specs.declared.session_handles.BegunSession.{BegunSession}
use Rattle.rs_held.specs.declared.text_handles.KeptText.{KeptText}

-- how many messages a ring holds where so many are asked for: so many, where a ring can hold them; else the room, or the most that
-- a ring can hold
abbrev pub capacity_for : ℕ → ℕ → ℕ
capacity_for asked room = if nat_le 1 asked && nat_le asked MOST_CAPACITY then asked else min room MOST_CAPACITY

-- the session is the accepted one of the text, and none of its roles has done anything yet, over rings of that capacity
pub record IsBegun (text : List ℕ) (asked : ℕ) (begun : BegunSession) : Type 0 where
  pub opened : IsCertifiedText DEFAULT_BOUND text begun.opened
  pub endpoints : AreBegun begun.opened.session.machines (capacity_for asked (room_of begun.opened.session.derivations)) begun.endpoints.items

-- the status that tells a refusal
abbrev pub status_of : Verdict → CallStatus
status_of verdict.Malformed = Malformed
status_of verdict.Unprojectable = Unprojectable
status_of verdict.TooLarge = TooLarge
status_of _ = Refused

-- the text is refused, and what is answered to it is kept, with the reason; the status tells why
abbrev pub IsRefusal : List ℕ → Option KeptText → CallStatus → Type 0
IsRefusal text refusal status =
    (kept : KeptText) × (why : Verdict) × (refusal ≡ Some kept) × IsExplained DEFAULT_BOUND text (record { text = kept.bytes.items; verdict = why }) × (status ≡ status_of why)

-- Fine: the session of the text is begun, and no refusal is kept. NoMemory: nothing has changed. Else the text is refused, which is
-- kept, and the session's handle is as it was
abbrev pub OpenTells : List ℕ → ℕ → Option BegunSession → Option BegunSession → Option KeptText → Option KeptText → CallStatus → Type 0
OpenTells text asked old new refusal_old refusal Fine = (begun : BegunSession) × (new ≡ Some begun) × IsBegun text asked begun × (refusal ≡ refusal_old)
OpenTells text asked old new refusal_old refusal NoMemory = (new ≡ old) × (refusal ≡ refusal_old)
OpenTells text asked old new refusal_old refusal status = (new ≡ old) × IsRefusal text refusal status

-- Fine: the role's endpoint goes to its handle, with no value received, and the session keeps the others. Unknown: there is no such
-- role. HandedOut: its endpoint was handed out before. NoMemory: memory was refused. But for Fine nothing has changed
abbrev pub HandOverTells : ℕ → BegunSession → BegunSession → Option HeldEndpoint → Option HeldEndpoint → CallStatus → Type 0
HandOverTells role before after old new Fine =
    (own : Endpoint_data) × (slice_get before.endpoints.items role ≡ Some (Some own)) × (after.opened ≡ before.opened) × (after.endpoints.items ≡ slice_set before.endpoints.items role None)
    × (new ≡ Some record { endpoint = own; last = NoValue })
HandOverTells role before after old new Unknown = (slice_get before.endpoints.items role ≡ None) × (after ≡ before) × (new ≡ old)
HandOverTells role before after old new HandedOut = (slice_get before.endpoints.items role ≡ Some None) × (after.opened ≡ before.opened) × (after.endpoints.items ≡ before.endpoints.items) × (new ≡ old)
HandOverTells role before after old new NoMemory = (after.opened ≡ before.opened) × (after.endpoints.items ≡ before.endpoints.items) × (new ≡ old)
HandOverTells role before after old new _ = ⊥
