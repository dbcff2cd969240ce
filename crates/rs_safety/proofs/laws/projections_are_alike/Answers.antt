use Rattle.rs_safety.proofs.Unique.{alike}
use Rattle.rs_safety.proofs.laws.projections_are_alike.Goals as goal

pub returns : goal.returns
returns c = alike
