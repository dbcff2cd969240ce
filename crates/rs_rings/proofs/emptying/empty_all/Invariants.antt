use Rattle.std.proofs.Common.{◌≡◌, ℕ, ◌<◌, ◌*◌, false, slice_index_or}
use Rattle.std.specs.Prelude.{vec_len, vec_capacity}
use Rattle.std.specs.Mem.Slots.{slots_items, slots_filled, slots_len}
use Rattle.std.specs.Mem.Slots.Ownership.{Filled}
use Rattle.rs_slots.specs.Places.{ring_count}
use Rattle.rs_rings.specs.Closed.{loose_in}
use Rattle.rs_rings.specs.Emptied.{TakesRoom}
use Rattle.rs_rings.proofs.emptying.empty_all.Given as goal

abbrev pub invariant-loop-ring : goal.invariant-loop-ring
invariant-loop-ring l = (slots_items l.closed.slots ≡ slots_items l.fn.closed.slots) × (slots_len l.closed.slots ≡ slots_len l.fn.closed.slots)
    × ((k : ℕ) → k < l.ring * l.fn.capacity → slice_index_or (slots_filled l.closed.slots) k false ≡ false)
    × Filled (slots_filled l.closed.slots) (l.ring * l.fn.capacity) (ring_count l.fn.roles * l.fn.capacity)
    × (l.loose.items ≡ loose_in l.fn.last.view l.fn.roles l.ring)
    × TakesRoom (l.ring * l.fn.capacity) (vec_len l.fn.loose) (vec_len l.loose) (vec_capacity l.fn.loose) (vec_capacity l.loose)
