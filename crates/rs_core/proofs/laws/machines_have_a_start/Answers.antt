use Rattle.rs_core.proofs.Guards.{start}
use Rattle.rs_core.proofs.laws.machines_have_a_start.Goals as goal

pub returns : goal.returns
returns c = start
