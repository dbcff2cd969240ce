use Rattle.rs_demos.proofs.Deciding.{actors_or_none}
use Rattle.rs_demos.proofs.laws.demos_have_actors_or_no_numbers.Goals as goal

pub returns : goal.returns
returns c = actors_or_none
