use Rattle.rs_bodies.proofs.OneFault.{expected}
use Rattle.rs_bodies.proofs.laws.expected_is_unexpected.Goals as goal

pub returns : goal.returns
returns c = expected
