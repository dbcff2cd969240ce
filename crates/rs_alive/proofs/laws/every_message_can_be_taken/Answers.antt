use Rattle.rs_alive.proofs.Bound.{taking}
use Rattle.rs_alive.proofs.laws.every_message_can_be_taken.Goals as goal

pub returns : goal.returns
returns c = taking
