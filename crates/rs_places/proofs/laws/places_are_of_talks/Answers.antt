use Rattle.rs_places.proofs.OnlyTalks.{place_of_talk}
use Rattle.rs_places.proofs.laws.places_are_of_talks.Goals as goal

pub returns : goal.returns
returns c = place_of_talk
