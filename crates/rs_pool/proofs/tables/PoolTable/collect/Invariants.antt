use Rattle.std.proofs.Common.{◌≡◌, ℕ, ◌-◌, ◌<◌, ◌≤◌, false, get_or, map, take, Some, vec_len, vec_capacity}
use Rattle.std.specs.Mem.Slots.{slots_filled, slots_len, slots_items}
use Rattle.std.specs.Mem.Slots.Ownership.{Filled}
use Rattle.rs_pool.specs.Jobs.{JobFits, Over}
use Rattle.rs_pool.proofs.Bounds.{AreSettled}
use Rattle.rs_pool.proofs.tables.PoolTable.collect.Given as goal

abbrev pub invariant-loop-i : goal.invariant-loop-i
invariant-loop-i g l = Filled (slots_filled l.closed.slots) l.i (slots_len l.closed.slots) × ((k : ℕ) → k < l.i → get_or (slots_filled l.closed.slots) k false ≡ false)
    × AreSettled (JobFits g.A.Actor.behaviour g.N.StartName.start) Over l.fn.self.roles (slots_items l.closed.slots) × (slots_len l.closed.slots ≡ l.fn.self.roles)
    × (map Some l.jobs.items ≡ take l.i (slots_items l.closed.slots)) × (vec_len l.jobs ≡ l.i) × (l.fn.self.roles ≤ vec_capacity l.jobs)

abbrev pub decreases-loop-i : goal.decreases-loop-i
decreases-loop-i g l = slots_len l.closed.slots - l.i
