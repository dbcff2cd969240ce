use Rattle.rs_grammar.proofs.Exact.{read_or_faulty}
use Rattle.rs_grammar.proofs.laws.text_is_read_or_has_a_fault.Goals as goal

pub returns : goal.returns
returns g c = read_or_faulty
