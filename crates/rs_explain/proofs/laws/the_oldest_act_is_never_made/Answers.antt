use Rattle.rs_explain.proofs.Oldest.{never_made, owed}
use Rattle.rs_explain.proofs.laws.the_oldest_act_is_never_made.Goals as goal

pub returns-clause-owed : goal.returns-clause-owed
returns-clause-owed c = owed

pub returns-clause-stays : goal.returns-clause-stays
returns-clause-stays c = never_made
