use Rattle.rs_text.proofs.Written.{word_token}
use Rattle.rs_text.proofs.laws.word_is_a_token.Goals as goal

pub returns : goal.returns
returns c = word_token
