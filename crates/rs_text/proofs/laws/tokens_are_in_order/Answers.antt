use Rattle.rs_text.proofs.Nexts.{within}
use Rattle.rs_text.proofs.laws.tokens_are_in_order.Goals as goal

pub returns : goal.returns
returns c = within
