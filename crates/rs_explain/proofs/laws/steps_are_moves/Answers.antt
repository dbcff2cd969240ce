use Rattle.rs_explain.proofs.Firsts.{leads_move}
use Rattle.rs_explain.proofs.laws.steps_are_moves.Goals as goal

pub returns : goal.returns
returns c = leads_move
