use Rattle.rs_runs.proofs.OneDemo.{one_demo}
use Rattle.rs_runs.proofs.laws.demos_have_one_answer.Goals as goal

pub returns : goal.returns
returns c = one_demo
