use Rattle.rs_places.proofs.StatePlaces.{act_stands}
use Rattle.rs_places.proofs.laws.acts_stand_at_their_places.Goals as goal

pub returns : goal.returns
returns c = act_stands
