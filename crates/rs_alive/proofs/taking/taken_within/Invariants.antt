use Rattle.std.proofs.Common.{◌≡◌, length}
use Rattle.rs_core.specs.Core.{configuration_of}
use Rattle.rs_core.proofs.Stands.{done_after}
use Rattle.rs_alive.proofs.Following.{Following, done_in, most_of}
use Rattle.rs_alive.proofs.Scheduled.{total}
use Rattle.rs_alive.proofs.taking.taken_within.Given as goal

abbrev pub invariant-loop-events : goal.invariant-loop-events
invariant-loop-events l =
    Following l.accepted l.past l.sender l.receiver l.place (configuration_of l.initial.core) (configuration_of l.core) l.before l.events.items
    × (l.core.machines ≡ l.accepted.machines)

abbrev pub decreases-loop-events : goal.decreases-loop-events
decreases-loop-events l = total (length l.accepted.machines) (most_of l.accepted l.past l.sender) (done_after (done_in l.past) l.events.items)
