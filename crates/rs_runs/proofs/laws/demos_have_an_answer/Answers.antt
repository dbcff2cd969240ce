use Rattle.rs_runs.proofs.SomeDemo.{some_demo}
use Rattle.rs_runs.proofs.laws.demos_have_an_answer.Goals as goal

pub returns : goal.returns
returns c = some_demo
