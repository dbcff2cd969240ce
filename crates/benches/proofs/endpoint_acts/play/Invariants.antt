use Rattle.std.proofs.Common.{◌≤◌}
use Rattle.rs_typed.specs.Endpoints.{IsEndpoint}
use Rattle.benches.specs.Acts.{drainer, feeder}
use Rattle.benches.proofs.endpoint_acts.play.Given as goal

abbrev pub invariant-loop-n : goal.invariant-loop-n
invariant-loop-n l = IsEndpoint l.session feeder l.a × IsEndpoint l.session drainer l.b × (l.right ≤ l.n)
