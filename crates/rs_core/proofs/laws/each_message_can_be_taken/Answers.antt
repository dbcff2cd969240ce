use Rattle.rs_core.proofs.Guards.{receive}
use Rattle.rs_core.proofs.laws.each_message_can_be_taken.Goals as goal

pub returns : goal.returns
returns c = receive
