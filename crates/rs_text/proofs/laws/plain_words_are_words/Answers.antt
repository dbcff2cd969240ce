use Rattle.rs_text.proofs.Nexts.{plain_law}
use Rattle.rs_text.proofs.laws.plain_words_are_words.Goals as goal

pub returns : goal.returns
returns c = plain_law
