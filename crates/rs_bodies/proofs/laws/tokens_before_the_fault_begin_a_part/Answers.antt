use Rattle.rs_bodies.proofs.OneFault.{begins_before}
use Rattle.rs_bodies.proofs.laws.tokens_before_the_fault_begin_a_part.Goals as goal

pub returns : goal.returns
returns c = begins_before
