use Rattle.rs_tool.proofs.SomeAnswer.{some_answer}
use Rattle.rs_tool.proofs.laws.all_have_an_answer.Goals as goal

pub returns : goal.returns
returns c = some_answer
