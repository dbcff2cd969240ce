use Rattle.rs_endpoints.proofs.Seen.{stays}
use Rattle.rs_endpoints.proofs.laws.seen_room_stays.Goals as goal

pub returns : goal.returns
returns c = stays
