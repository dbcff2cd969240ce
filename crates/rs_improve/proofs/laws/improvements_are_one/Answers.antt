use Rattle.rs_improve.proofs.Once.{one_improvement}
use Rattle.rs_improve.proofs.laws.improvements_are_one.Goals as goal

pub returns : goal.returns
returns c = one_improvement
