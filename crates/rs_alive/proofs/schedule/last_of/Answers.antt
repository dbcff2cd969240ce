use Rattle.std.proofs.Common.{rules}
use Rattle.rs_core.specs.Core.{configuration_of}
use Rattle.rs_alive.proofs.Chains.{not_lost, seek_on}
use Rattle.rs_alive.proofs.schedule.last_of.Goals as goal

pub loop-preserved : goal.loop-preserved
loop-preserved c =
    seek_on c.args.core.now.machines (configuration_of c.args.core.now) c.args.role.0 c.loop.last.0 c.loop.counter c.in-Some.peer c.loop.invariant (search rules) (search rules)

pub unreachable-requires : goal.unreachable-requires
unreachable-requires c =
    not_lost c.args.core.now.machines (configuration_of c.args.core.now) (search rules) c.args.role.0 c.loop.last.0 c.loop.counter (search rules) c.loop.invariant (search rules)
