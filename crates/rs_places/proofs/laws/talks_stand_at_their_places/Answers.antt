use Rattle.rs_places.proofs.TalkPlaces.{talk_stands}
use Rattle.rs_places.proofs.laws.talks_stand_at_their_places.Goals as goal

pub returns : goal.returns
returns c = talk_stands
