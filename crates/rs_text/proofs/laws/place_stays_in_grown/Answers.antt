use Rattle.rs_text.proofs.Naming.{grown_stays}
use Rattle.rs_text.proofs.laws.place_stays_in_grown.Goals as goal

pub returns : goal.returns
returns c = λ name names more place h. grown_stays more names name place h
