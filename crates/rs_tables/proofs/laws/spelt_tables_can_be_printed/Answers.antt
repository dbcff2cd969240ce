use Rattle.rs_tables.proofs.Spelt.{spelt_tabled}
use Rattle.rs_tables.proofs.laws.spelt_tables_can_be_printed.Goals as goal

pub returns : goal.returns
returns c = spelt_tabled
