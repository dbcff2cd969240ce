use Rattle.rs_bodies.proofs.OneFault.{first_fault}
use Rattle.rs_bodies.proofs.laws.told_fault_is_the_first.Goals as goal

pub returns : goal.returns
returns c = first_fault
