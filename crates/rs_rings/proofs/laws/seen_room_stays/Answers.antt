use Rattle.std.proofs.Common.{◌≡◌, ◌<◌, ◌+◌, ℕ, length, refl, sym, subst, arith}
use Rattle.rs_rings.specs.Acts.{parcels_sent}
use Rattle.rs_rings.specs.Views.{last_found, part_of, part_with_room}
use Rattle.rs_rings.specs.Passes.{HasSeenRoom}
use Rattle.rs_rings.specs.declared.views.Part.{Part}
use Rattle.rs_rings.proofs.FourSteps.{found_here}
use Rattle.rs_rings.proofs.laws.seen_room_stays.Goals as goal

pub returns-clause-seen : goal.returns-clause-seen
returns-clause-seen c = λ machines capacity p q v w told.
    let a : Part = part_of v p in
    let found : last_found q (part_with_room q told.taken a).heads ≡ told.taken = found_here q told.taken a.heads in
    let room : length (parcels_sent q a.history) < told.taken + capacity = told.some refl in
    let seen : HasSeenRoom capacity q (part_with_room q told.taken a) = subst (λ (z : ℕ). length (parcels_sent q a.history) < z + capacity) (sym found) room in
    subst (HasSeenRoom capacity q) (sym told.changed.part) seen

pub returns-clause-put : goal.returns-clause-put
returns-clause-put c = λ machines capacity p q x v w sent taken back room told.
    let is = told.is_sent in
    let full = told.full in
    let less = told.not_less in
    omega arith
