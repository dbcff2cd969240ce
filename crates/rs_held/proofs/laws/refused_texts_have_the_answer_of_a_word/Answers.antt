use Rattle.rs_held.proofs.Explained.{explained, verified}
use Rattle.rs_held.proofs.laws.refused_texts_have_the_answer_of_a_word.Goals as goal

pub returns-clause-verified : goal.returns-clause-verified
returns-clause-verified c = verified

pub returns-clause-explained : goal.returns-clause-explained
returns-clause-explained c = explained
