use Rattle.std.proofs.Common.{rules}
use Rattle.rs_pool.specs.Jobs.{JobFits, Over}
use Rattle.rs_pool.proofs.Acts.{counts_end_at}
use Rattle.rs_pool.proofs.tables.PoolTable.count_end.Goals as goal

pub fetch_add-requires : goal.fetch_add-requires
fetch_add-requires g c = (
  search rules,
  search rules,
  counts_end_at
      (JobFits g.A.Actor.behaviour g.N.StartName.start) Over c.args.self.now.table.shared.key.roles c.args.self.now.table.shared.key.shares c.args.self.now.roles c.args.self.now.keyed _ _
      c.args.role c.args.amount c.args.seat.now.me c.requires.holds c.requires.once c.requires.amount,
)
