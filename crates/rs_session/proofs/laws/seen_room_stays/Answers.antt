use Rattle.rs_session.proofs.Telling.{room_stays}
use Rattle.rs_session.proofs.laws.seen_room_stays.Goals as goal

pub returns : goal.returns
returns c = room_stays
