use Rattle.rs_text.proofs.Naming.{grown_differ}
use Rattle.rs_text.proofs.laws.grown_names_differ.Goals as goal

pub returns : goal.returns
returns c = λ names more h. grown_differ more names h
