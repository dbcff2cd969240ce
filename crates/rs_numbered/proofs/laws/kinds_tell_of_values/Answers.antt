use Rattle.rs_numbered.proofs.Likenesses.{stands_for}
use Rattle.rs_numbered.proofs.laws.kinds_tell_of_values.Goals as goal

pub returns : goal.returns
returns c = stands_for
