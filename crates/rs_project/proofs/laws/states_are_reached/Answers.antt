use Rattle.rs_project.proofs.Histories.{is_reached}
use Rattle.rs_project.proofs.laws.states_are_reached.Goals as goal

pub returns : goal.returns
returns c = is_reached
