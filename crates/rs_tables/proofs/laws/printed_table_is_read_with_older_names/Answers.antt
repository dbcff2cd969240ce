use Rattle.rs_tables.proofs.Again.{read_with_older}
use Rattle.rs_tables.proofs.laws.printed_table_is_read_with_older_names.Goals as goal

pub returns : goal.returns
returns c = read_with_older
