use Rattle.rs_demos.proofs.FewActs.{few_acts, low_limit}
use Rattle.rs_demos.proofs.laws.demos_are_stopped_at_low_limits_alone.Goals as goal

pub returns-clause-acts : goal.returns-clause-acts
returns-clause-acts c = few_acts

pub returns-clause-limit : goal.returns-clause-limit
returns-clause-limit c = low_limit
