use Rattle.rs_session.proofs.OneKind.{one_missing, not_all_there}
use Rattle.rs_session.proofs.laws.one_role_is_missing_first.Goals as goal

pub returns-clause-one : goal.returns-clause-one
returns-clause-one c = one_missing

pub returns-clause-not_all : goal.returns-clause-not_all
returns-clause-not_all c = not_all_there
