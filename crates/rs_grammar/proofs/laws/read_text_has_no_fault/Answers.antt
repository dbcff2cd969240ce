use Rattle.rs_grammar.proofs.Exact.{read_no_fault}
use Rattle.rs_grammar.proofs.laws.read_text_has_no_fault.Goals as goal

pub returns : goal.returns
returns g c = read_no_fault
