use Rattle.std.proofs.Common.{map}
use Rattle.rs_session.specs.Ends.{AreAllThere}
use Rattle.rs_session.proofs.gathering.least_missing.Given as goal

abbrev pub invariant-loop-number : goal.invariant-loop-number
invariant-loop-number g l = AreAllThere l.number (map g.S.Stands.stage l.stages)
