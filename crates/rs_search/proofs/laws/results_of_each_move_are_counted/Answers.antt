use Rattle.rs_search.proofs.Counted.{counted}
use Rattle.rs_search.proofs.laws.results_of_each_move_are_counted.Goals as goal

pub returns : goal.returns
returns c = counted
