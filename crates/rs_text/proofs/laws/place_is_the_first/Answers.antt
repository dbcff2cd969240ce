use Rattle.rs_text.proofs.Naming.{place_law}
use Rattle.rs_text.proofs.laws.place_is_the_first.Goals as goal

pub returns : goal.returns
returns c = place_law
