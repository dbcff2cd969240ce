use Rattle.rs_open.proofs.Opened.{verified}
use Rattle.rs_open.proofs.laws.unverified_texts_have_the_answer_of_verify.Goals as goal

pub returns : goal.returns
returns c = verified
