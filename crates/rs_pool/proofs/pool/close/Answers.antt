use Rattle.rs_session.proofs.OneKind.{not_all_there}
use Rattle.rs_pool.proofs.pool.close.Goals as goal

pub unreachable-requires : goal.unreachable-requires
unreachable-requires c = not_all_there _ _ _ c.in-Err.ensures.missing c.requires.present
