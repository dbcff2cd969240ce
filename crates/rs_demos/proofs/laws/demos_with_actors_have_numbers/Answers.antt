use Rattle.rs_demos.proofs.Deciding.{not_both_shown}
use Rattle.rs_demos.proofs.laws.demos_with_actors_have_numbers.Goals as goal

pub returns : goal.returns
returns c = not_both_shown
