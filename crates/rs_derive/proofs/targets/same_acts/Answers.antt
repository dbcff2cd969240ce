use Rattle.rs_derive.proofs.Acts.{tested}
use Rattle.rs_derive.proofs.targets.same_acts.Goals as goal

pub returns : goal.returns
returns c = tested c.are_equal.result c.args.acts.now c.args.others.now c.are_equal.ensures.0 c.are_equal.ensures.1
