use Rattle.rs_pictures.proofs.States.{each_state}
use Rattle.rs_pictures.proofs.laws.arrows_are_the_acts.Goals as goal

pub returns : goal.returns
returns c = each_state
