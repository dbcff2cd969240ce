use Rattle.rs_tool.proofs.Hopeless.{hopeless_answer}
use Rattle.rs_tool.proofs.laws.no_bound_helps_where_explain_says_so.Goals as goal

pub returns : goal.returns
returns c = hopeless_answer
