use Rattle.rs_search.proofs.Determined.{is_forgetful}
use Rattle.rs_search.proofs.Remembering.{not_forgetful}
use Rattle.rs_reasons.proofs.laws.no_bound_helps_where_one_forgets.Goals as goal

pub returns : goal.returns
returns c = λ sub above bound node d ws wa f v rem. not_forgetful sub above bound d ws wa v rem (is_forgetful sub above bound node f)
