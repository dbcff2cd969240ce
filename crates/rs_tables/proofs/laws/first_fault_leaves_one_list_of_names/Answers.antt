use Rattle.rs_tables.proofs.Leaving.{one_left}
use Rattle.rs_tables.proofs.laws.first_fault_leaves_one_list_of_names.Goals as goal

pub returns : goal.returns
returns c = one_left
