use Rattle.rs_text.proofs.Nexts.{tokens_law}
use Rattle.rs_text.proofs.laws.cut_off_are_tokens.Goals as goal

pub returns : goal.returns
returns c = tokens_law
