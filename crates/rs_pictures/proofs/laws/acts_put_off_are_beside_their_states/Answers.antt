use Rattle.rs_pictures.proofs.PutOff.{each_state}
use Rattle.rs_pictures.proofs.laws.acts_put_off_are_beside_their_states.Goals as goal

pub returns : goal.returns
returns c = each_state
