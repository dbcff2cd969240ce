use Rattle.rs_text.proofs.Nexts.{next_token_law}
use Rattle.rs_text.proofs.laws.next_token_is_next.Goals as goal

pub returns : goal.returns
returns c = next_token_law
