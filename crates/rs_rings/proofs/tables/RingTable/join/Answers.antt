use Rattle.std.proofs.Common.{rules}
use Rattle.rs_rings.proofs.Seats.{joins}
use Rattle.rs_rings.proofs.tables.RingTable.join.Goals as goal

pub join_seat-requires : goal.join_seat-requires
join_seat-requires c = (search rules, search rules, search rules, search rules, joins c.args.self.now.board.shared.key _ c.args.seat.now.me.0 _ c.args.other.me.0)
