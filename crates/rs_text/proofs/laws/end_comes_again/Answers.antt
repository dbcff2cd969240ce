use Rattle.rs_text.proofs.Nexts.{end_again}
use Rattle.rs_text.proofs.laws.end_comes_again.Goals as goal

pub returns : goal.returns
returns c = end_again
