use Rattle.rs_text.proofs.Values.{decimal_token}
use Rattle.rs_text.proofs.laws.decimal_is_a_number.Goals as goal

pub returns : goal.returns
returns c = decimal_token
