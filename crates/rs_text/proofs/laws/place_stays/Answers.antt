use Rattle.rs_text.proofs.Naming.{place_stays}
use Rattle.rs_text.proofs.laws.place_stays.Goals as goal

pub returns : goal.returns
returns c = λ name names more place h. place_stays names more name place h
