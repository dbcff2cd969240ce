use Rattle.rs_pool.specs.Jobs.{JobFits}
use Rattle.rs_pool.proofs.TurnsMade.{HaveLed}
use Rattle.rs_pool.proofs.tables.PoolTable.turns.Given as goal

abbrev pub invariant-loop : goal.invariant-loop
invariant-loop g l = record {
  fits : JobFits g.A.Actor.behaviour g.N.StartName.start l.fn.role l.job;
  led : HaveLed l.session g.A.Actor.behaviour l.fn.job.task l.job.task l.counter l.moved;
}
