use Rattle.rs_held.proofs.Copying.{may_not}
use Rattle.rs_held.proofs.laws.copies_wait_as_values_do.Goals as goal

pub returns : goal.returns
returns c = may_not
