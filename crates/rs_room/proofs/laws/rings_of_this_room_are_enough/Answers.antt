use Rattle.rs_room.proofs.Enough.{can_go_on, bounded_step, is_reachable, never_stuck_shown}
use Rattle.rs_room.proofs.laws.rings_of_this_room_are_enough.Goals as goal

pub returns-clause-goes_on : goal.returns-clause-goes_on
returns-clause-goes_on c = can_go_on

pub returns-clause-step : goal.returns-clause-step
returns-clause-step c = bounded_step

pub returns-clause-not_stuck : goal.returns-clause-not_stuck
returns-clause-not_stuck c = λ pr pjs ms ds s capacity room c r. never_stuck_shown pr pjs ms ds s capacity room c (is_reachable ms capacity c r)
