use Rattle.rs_explain.proofs.Existing.{one_explanation, some_explanation, uncut_blocked, walk_from_start}
use Rattle.rs_explain.proofs.laws.one_explanation_where_not_found.Goals as goal

pub returns-clause-walk : goal.returns-clause-walk
returns-clause-walk c = walk_from_start

pub returns-clause-some : goal.returns-clause-some
returns-clause-some c = some_explanation

pub returns-clause-one : goal.returns-clause-one
returns-clause-one c = one_explanation

pub returns-clause-uncut : goal.returns-clause-uncut
returns-clause-uncut c = uncut_blocked
