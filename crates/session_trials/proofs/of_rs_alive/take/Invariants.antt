use Rattle.std.proofs.Common.{◌≡◌}
use Rattle.session_trials.proofs.of_rs_alive.take.Given as goal

abbrev pub invariant-loop-at : goal.invariant-loop-at
invariant-loop-at l = l.core.machines ≡ l.initial.core.machines
