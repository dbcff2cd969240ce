use Rattle.rs_rings.proofs.Legal.{happened_on}
use Rattle.rs_rings.proofs.laws.acts_that_happened_are_events.Goals as goal

pub returns : goal.returns
returns c = λ machines p h a hd. happened_on machines p h a hd
