use Rattle.std.proofs.Common.{◌≡◌, ◌+◌, ◌<◌, ◌≤◌, [], None, vec_len, All}
use Rattle.rs_pool.specs.Calls.{HasFinished}
use Rattle.rs_pool.proofs.tables.PoolTable.gather.Given as goal

abbrev pub invariant-loop-worker_seat : goal.invariant-loop-worker_seat
invariant-loop-worker_seat g l = (l.main.table_id ≡ l.fn.main.table_id) × (l.main.me.0.held ≡ None) × (l.main.me.1 ≡ []) × (l.main.me.0.shares + vec_len l.worker_seats ≡ vec_len l.fn.worker_seats + 1)
    × (vec_len l.worker_seats < vec_len l.fn.worker_seats → l.fn.self.roles ≤ l.main.me.0.seen) × (vec_len l.worker_seats ≤ vec_len l.fn.worker_seats)
    × All (HasFinished l.fn.self.table.shared.table_id l.fn.self.roles) l.worker_seats.items

abbrev pub decreases-loop-worker_seat : goal.decreases-loop-worker_seat
decreases-loop-worker_seat g l = vec_len l.worker_seats
