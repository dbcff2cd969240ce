use Rattle.rs_tables.proofs.Again.{no_new_labels}
use Rattle.rs_tables.proofs.laws.printed_table_has_no_new_labels.Goals as goal

pub returns : goal.returns
returns c = no_new_labels
