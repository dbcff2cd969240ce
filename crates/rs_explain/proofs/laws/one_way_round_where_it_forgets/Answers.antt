use Rattle.rs_explain.proofs.Forgetful.{one_forgetting, some_forgetting}
use Rattle.rs_explain.proofs.laws.one_way_round_where_it_forgets.Goals as goal

pub returns-clause-some : goal.returns-clause-some
returns-clause-some c = some_forgetting

pub returns-clause-one : goal.returns-clause-one
returns-clause-one c = one_forgetting
