use Rattle.rs_monitor.proofs.Refusing.{either, not_both, one}
use Rattle.rs_monitor.proofs.laws.an_act_is_let_through_or_refused_for_one_reason.Goals as goal

pub returns-clause-either : goal.returns-clause-either
returns-clause-either c = either

pub returns-clause-not_both : goal.returns-clause-not_both
returns-clause-not_both c = not_both

pub returns-clause-one : goal.returns-clause-one
returns-clause-one c = one
