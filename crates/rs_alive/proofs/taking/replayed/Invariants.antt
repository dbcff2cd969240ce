use Rattle.std.proofs.Common.{◌≡◌, take}
use Rattle.rs_core.specs.Core.{configuration_of}
use Rattle.rs_alive.specs.Pasts.{PastLeadsTo}
use Rattle.rs_alive.proofs.taking.replayed.Given as goal

abbrev pub invariant-loop-at : goal.invariant-loop-at
invariant-loop-at l = PastLeadsTo l.core.machines (take l.at l.past) (configuration_of l.core) × (l.core.machines ≡ l.accepted.machines)
