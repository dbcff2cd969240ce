use Rattle.rs_prefix.proofs.Right.{is, is_right, one}
use Rattle.rs_prefix.proofs.laws.one_answer_is_right.Goals as goal

pub returns-clause-right : goal.returns-clause-right
returns-clause-right c = λ pending kind q f. (is pending kind q f, is_right pending kind q f)

pub returns-clause-one : goal.returns-clause-one
returns-clause-one c = one
