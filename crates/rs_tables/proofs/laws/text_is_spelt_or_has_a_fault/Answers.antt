use Rattle.rs_tables.proofs.Spelt.{spelt_or_faulty}
use Rattle.rs_tables.proofs.laws.text_is_spelt_or_has_a_fault.Goals as goal

pub returns : goal.returns
returns c = spelt_or_faulty
