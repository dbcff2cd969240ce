use Rattle.std.proofs.Common.{◌≡◌, length}
use Rattle.session_trials.proofs.of_rs_alive.long_past.Given as goal

abbrev pub invariant-loop-number : goal.invariant-loop-number
invariant-loop-number l = length l.events.items ≡ l.number
