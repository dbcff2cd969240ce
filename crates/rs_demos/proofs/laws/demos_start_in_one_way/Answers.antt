use Rattle.rs_demos.proofs.Deciding.{one_start}
use Rattle.rs_demos.proofs.laws.demos_start_in_one_way.Goals as goal

pub returns : goal.returns
returns c = one_start
