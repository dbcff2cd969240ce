use Rattle.rs_text.proofs.Naming.{grown_among}
use Rattle.rs_text.proofs.laws.grown_has_both.Goals as goal

pub returns : goal.returns
returns c = λ name names more. grown_among more names name
