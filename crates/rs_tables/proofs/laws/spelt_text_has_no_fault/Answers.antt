use Rattle.rs_tables.proofs.Spelt.{spelt_no_fault}
use Rattle.rs_tables.proofs.laws.spelt_text_has_no_fault.Goals as goal

pub returns : goal.returns
returns c = spelt_no_fault
