use Rattle.std.proofs.Common.{◌≡◌}
use Rattle.rs_pool.specs.Calls.{SeatRests}
use Rattle.rs_pool.proofs.tables.PoolTable.work.Given as goal

abbrev pub invariant-loop : goal.invariant-loop
invariant-loop g l = (l.seat.table_id ≡ l.fn.seat.table_id) × SeatRests 1 l.seat.me
