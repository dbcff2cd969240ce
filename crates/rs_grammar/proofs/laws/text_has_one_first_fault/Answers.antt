use Rattle.rs_grammar.proofs.Exact.{one_fault}
use Rattle.rs_grammar.proofs.laws.text_has_one_first_fault.Goals as goal

pub returns : goal.returns
returns g c = one_fault
