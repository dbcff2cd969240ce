use Rattle.rs_core.specs.Core.{configuration_of}
use Rattle.rs_alive.proofs.Chains.{Sought}
use Rattle.rs_alive.proofs.schedule.last_of.Given as goal

abbrev pub invariant-loop : goal.invariant-loop
invariant-loop l = Sought l.core.machines (configuration_of l.core) l.fn.role.0 l.last.0 l.counter
