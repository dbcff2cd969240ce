use Rattle.std.proofs.Common.{rules}
use Rattle.rs_endpoints.proofs.Keeping.{opens, closes}
use Rattle.rs_endpoints.proofs.lockers.Locker.put.Goals as goal

pub swap_new_seat-found-requires : goal.swap_new_seat-found-requires
swap_new_seat-found-requires c = (search rules, opens _ _ c.self.inside.table.shared.key)

pub store-requires : goal.store-requires
store-requires c = (search rules, search rules, closes _ _ _ _ _ _ _ c.self.inside.sized.1 c.exchange.ensures.3 (search rules))
