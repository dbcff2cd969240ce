use Rattle.rs_pool.proofs.Alike.{both_ended, not_both}
use Rattle.rs_pool.proofs.laws.runs_by_workers_are_alike.Goals as goal

pub returns-clause-ended : goal.returns-clause-ended
returns-clause-ended g c = both_ended g.A.Actor.behaviour

pub returns-clause-stopped : goal.returns-clause-stopped
returns-clause-stopped g c = not_both g.A.Actor.behaviour
