use Rattle.rs_grammar.proofs.Exact.{one_reading}
use Rattle.rs_grammar.proofs.laws.text_is_read_as_one_value.Goals as goal

pub returns : goal.returns
returns g c = one_reading
