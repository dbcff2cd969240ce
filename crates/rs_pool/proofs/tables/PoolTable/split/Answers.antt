use Rattle.std.proofs.Common.{rules}
use Rattle.rs_pool.specs.Jobs.{JobFits, Over}
use Rattle.rs_pool.proofs.Acts.{splits}
use Rattle.rs_pool.proofs.tables.PoolTable.split.Goals as goal

pub split_seat-requires : goal.split_seat-requires
split_seat-requires g c = (
  search rules,
  search rules,
  splits
      (JobFits g.A.Actor.behaviour g.N.StartName.start) Over c.args.self.now.table.shared.key.roles c.args.self.now.table.shared.key.shares _ c.args.seat.now.me.0 c.requires.shares,
)
