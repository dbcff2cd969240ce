use Rattle.rs_tables.proofs.Spelt.{one_fault}
use Rattle.rs_tables.proofs.laws.text_has_one_first_fault.Goals as goal

pub returns : goal.returns
returns c = one_fault
