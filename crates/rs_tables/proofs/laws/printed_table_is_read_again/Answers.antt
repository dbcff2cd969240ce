use Rattle.rs_tables.proofs.Again.{read_again}
use Rattle.rs_tables.proofs.laws.printed_table_is_read_again.Goals as goal

pub returns : goal.returns
returns c = read_again
