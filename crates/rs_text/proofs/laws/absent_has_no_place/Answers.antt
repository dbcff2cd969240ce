use Rattle.rs_text.proofs.Naming.{absent_law}
use Rattle.rs_text.proofs.laws.absent_has_no_place.Goals as goal

pub returns : goal.returns
returns c = absent_law
