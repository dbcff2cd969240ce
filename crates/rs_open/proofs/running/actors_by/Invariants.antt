use Rattle.std.proofs.Common.{Ok}
use Rattle.rs_open.specs.Making.{AreMadeBy}
use Rattle.rs_open.proofs.running.actors_by.Given as goal

abbrev pub invariant-loop-number : goal.invariant-loop-number
invariant-loop-number g l = AreMadeBy (λ role x. goal.F-post g l.actor role (Ok x)) l.number l.actors.items
