use Rattle.rs_watch.proofs.Enough.{enough}
use Rattle.rs_watch.proofs.laws.queues_of_the_room_are_enough.Goals as goal

pub returns : goal.returns
returns c = enough
