use Rattle.std.proofs.Common.{rules}
use Rattle.rs_endpoints.proofs.Keeping.{opens, closes, fits_out, holds}
use Rattle.rs_endpoints.proofs.lockers.Locker.is_spent.Goals as goal

pub swap_new_seat-found-requires : goal.swap_new_seat-found-requires
swap_new_seat-found-requires c = (search rules, opens _ _ c.self.inside.table.shared.key)

pub exchange-requires : goal.exchange-requires
exchange-requires c = (c.swap_new_seat-found.ensures.0, holds _ _ _ c.swap_new_seat-found.ensures.1 (search rules))

pub store-requires : goal.store-requires
store-requires c = (search rules, search rules, closes _ _ _ _ _ _ _ c.self.inside.sized.1 c.exchange-in-Some.ensures.3 (fits_out _ _ _ c.swap_new_seat-found.ensures.1 (search rules) _ c.exchange.ensures.2 _ c.in-Some.is))
