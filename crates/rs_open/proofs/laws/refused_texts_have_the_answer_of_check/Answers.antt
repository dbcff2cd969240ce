use Rattle.rs_open.proofs.Opened.{checked}
use Rattle.rs_open.proofs.laws.refused_texts_have_the_answer_of_check.Goals as goal

pub returns : goal.returns
returns c = checked
