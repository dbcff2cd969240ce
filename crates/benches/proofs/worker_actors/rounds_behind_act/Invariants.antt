use Rattle.std.proofs.Common.{◌≡◌, ◌-◌}
use Rattle.rs_core.specs.Draws.{after_many}
use Rattle.benches.proofs.worker_actors.rounds_behind_act.Given as goal

abbrev pub invariant-loop : goal.invariant-loop
invariant-loop l = after_many (l.rounds - l.counter) l.reached ≡ after_many l.rounds l.number
