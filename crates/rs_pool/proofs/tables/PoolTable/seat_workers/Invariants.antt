use Rattle.std.proofs.Common.{◌≡◌, ◌+◌, ◌≤◌, [], None, vec_len, vec_capacity, All}
use Rattle.rs_pool.specs.Calls.{IsSeated}
use Rattle.rs_pool.proofs.tables.PoolTable.seat_workers.Given as goal

abbrev pub invariant-loop-worker : goal.invariant-loop-worker
invariant-loop-worker g l = (l.main.table_id ≡ l.fn.main.table_id) × (l.main.me.0.held ≡ None) × (l.main.me.1 ≡ []) × (l.main.me.0.shares + l.worker ≡ l.fn.workers + 1)
    × (vec_len l.worker_seats ≡ l.worker) × (l.fn.workers ≤ vec_capacity l.worker_seats) × All (IsSeated l.fn.self.table.shared.table_id) l.worker_seats.items
