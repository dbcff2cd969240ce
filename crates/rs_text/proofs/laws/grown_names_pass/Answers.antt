use Rattle.rs_text.proofs.Naming.{grown_all}
use Rattle.rs_text.proofs.laws.grown_names_pass.Goals as goal

pub returns : goal.returns
returns c = λ test names more h k. grown_all test more names h k
