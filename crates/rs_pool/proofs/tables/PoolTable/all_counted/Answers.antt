use Rattle.std.proofs.Common.{rules}
use Rattle.rs_pool.specs.Jobs.{JobFits, Over}
use Rattle.rs_pool.proofs.Acts.{sees_at}
use Rattle.rs_pool.proofs.tables.PoolTable.all_counted.Goals as goal

pub load-word-requires : goal.load-word-requires
load-word-requires g c = (
  search rules,
  search rules,
  sees_at
      (JobFits g.A.Actor.behaviour g.N.StartName.start) Over c.args.self.now.table.shared.key.roles c.args.self.now.table.shared.key.shares c.args.self.now.roles c.args.self.now.keyed _ _ _,
)
