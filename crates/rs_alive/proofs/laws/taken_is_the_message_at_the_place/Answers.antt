use Rattle.rs_alive.proofs.TheMessage.{the_message}
use Rattle.rs_alive.proofs.laws.taken_is_the_message_at_the_place.Goals as goal

pub returns : goal.returns
returns c = the_message
