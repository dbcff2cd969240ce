use Rattle.rs_runs.proofs.OneBesideSeveral.{one_beside_many, one_beside_several}
use Rattle.rs_runs.proofs.laws.one_worker_answers_as_several_do.Goals as goal

pub returns-clause-enough : goal.returns-clause-enough
returns-clause-enough c = one_beside_several

pub returns-clause-told : goal.returns-clause-told
returns-clause-told c = one_beside_many
