use Rattle.std.proofs.Common.{◌≤◌}
use Rattle.benches.specs.Acts.{drainer, feeder, Plays}
use Rattle.benches.proofs.stage_acts.play.Given as goal

abbrev pub invariant-loop-n : goal.invariant-loop-n
invariant-loop-n l = Plays l.session feeder l.a × Plays l.session drainer l.b × (l.right ≤ l.n)
