use Rattle.rs_explain.proofs.Forced.{forced}
use Rattle.rs_explain.proofs.laws.forced_walks_have_no_other_way.Goals as goal

pub returns : goal.returns
returns c = forced
