use Rattle.rs_tool.proofs.Unique.{one_answer, one_or_stopped}
use Rattle.rs_tool.proofs.laws.none_have_two_answers.Goals as goal

pub returns-clause-alone : goal.returns-clause-alone
returns-clause-alone c = one_answer

pub returns-clause-by_workers : goal.returns-clause-by_workers
returns-clause-by_workers c = one_or_stopped
