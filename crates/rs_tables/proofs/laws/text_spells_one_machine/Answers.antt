use Rattle.rs_tables.proofs.Spelt.{one_spelling}
use Rattle.rs_tables.proofs.laws.text_spells_one_machine.Goals as goal

pub returns : goal.returns
returns c = one_spelling
