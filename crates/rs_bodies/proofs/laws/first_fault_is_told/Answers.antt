use Rattle.rs_bodies.proofs.OneFault.{tells}
use Rattle.rs_bodies.proofs.laws.first_fault_is_told.Goals as goal

pub returns : goal.returns
returns c = tells
