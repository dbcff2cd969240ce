use Rattle.std.proofs.Common.{◌≡◌, length}
use Rattle.benches.proofs.worker_runs.actors_of.Given as goal

abbrev pub invariant-loop : goal.invariant-loop
invariant-loop l = length l.actors.items ≡ l.counter
