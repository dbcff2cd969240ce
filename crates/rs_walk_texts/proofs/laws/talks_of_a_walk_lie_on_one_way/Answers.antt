use Rattle.rs_walk_texts.proofs.Toward.{on_one_way}
use Rattle.rs_walk_texts.proofs.laws.talks_of_a_walk_lie_on_one_way.Goals as goal

pub returns : goal.returns
returns c = on_one_way
