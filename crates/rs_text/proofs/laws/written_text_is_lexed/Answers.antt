use Rattle.rs_text.proofs.Written.{written_law}
use Rattle.rs_text.proofs.laws.written_text_is_lexed.Goals as goal

pub returns : goal.returns
returns c = written_law
