use Rattle.std.proofs.Common.{rules}
use Rattle.rs_pool.specs.Jobs.{JobFits, Over}
use Rattle.rs_pool.proofs.Acts.{joins}
use Rattle.rs_pool.proofs.tables.PoolTable.join.Goals as goal

pub join_seat-requires : goal.join_seat-requires
join_seat-requires g c = (
  search rules,
  search rules,
  search rules,
  search rules,
  joins
      (JobFits g.A.Actor.behaviour g.N.StartName.start) Over c.args.self.now.table.shared.key.roles c.args.self.now.table.shared.key.shares _ c.args.seat.now.me.0 _ c.args.other.me.0
      c.requires.rests.0,
)
