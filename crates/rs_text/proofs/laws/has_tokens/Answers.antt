use Rattle.rs_text.proofs.Nexts.{exists}
use Rattle.rs_text.proofs.laws.has_tokens.Goals as goal

pub returns : goal.returns
returns c = exists
