use Rattle.rs_bodies.proofs.OneFault.{one_fault}
use Rattle.rs_bodies.proofs.laws.text_has_one_first_fault.Goals as goal

pub returns : goal.returns
returns c = one_fault
