use Rattle.rs_text.proofs.Nexts.{one_list_law}
use Rattle.rs_text.proofs.laws.has_one_list_of_tokens.Goals as goal

pub returns : goal.returns
returns c = one_list_law
