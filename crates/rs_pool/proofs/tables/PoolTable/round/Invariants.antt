use Rattle.std.proofs.Common.{◌≡◌}
use Rattle.rs_pool.specs.Calls.{SeatRests}
use Rattle.rs_pool.proofs.tables.PoolTable.round.Given as goal

abbrev pub invariant-loop-role : goal.invariant-loop-role
invariant-loop-role g l = (l.seat.table_id ≡ l.fn.seat.table_id) × SeatRests 1 l.seat.me
