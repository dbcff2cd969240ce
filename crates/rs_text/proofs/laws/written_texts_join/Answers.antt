use Rattle.rs_text.proofs.Written.{joined}
use Rattle.rs_text.proofs.laws.written_texts_join.Goals as goal

pub returns : goal.returns
returns c = joined
