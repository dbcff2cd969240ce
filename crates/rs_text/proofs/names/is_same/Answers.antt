use Rattle.rs_text.proofs.Sameness.{tested}
use Rattle.rs_text.proofs.names.is_same.Goals as goal

pub returns : goal.returns
returns c = tested c.are_equal.result c.args.one.now c.args.other.now c.are_equal.ensures.0 c.are_equal.ensures.1
