use Rattle.rs_core.proofs.Guards.{same_reachable}
use Rattle.rs_core.proofs.laws.same_configurations_are_reached.Goals as goal

pub returns : goal.returns
returns c = same_reachable
