use Rattle.rs_bodies.proofs.OneFault.{one_left}
use Rattle.rs_machines.proofs.fault_laws.first_fault_leaves_one_list_of_names.Goals as goal

pub returns : goal.returns
returns c = one_left
