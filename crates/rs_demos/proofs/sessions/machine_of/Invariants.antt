use Rattle.std.proofs.Common.{◌≡◌, ◌*◌, ◌++◌, drop}
use Rattle.rs_demos.specs.Sessions.{states_from}
use Rattle.rs_demos.proofs.sessions.machine_of.Given as goal

abbrev pub invariant-loop-pair : goal.invariant-loop-pair
invariant-loop-pair l = (l.before ≡ 2 * l.pair-index) × (l.states.items ++ states_from l.before (drop l.pair-index l.pairs) ≡ states_from 0 l.pairs)
