use Rattle.rs_walk_texts.proofs.Least.{none_nearest, some_nearest}
use Rattle.rs_walk_texts.proofs.laws.the_nearest_label_is_told.Goals as goal

pub returns-clause-some : goal.returns-clause-some
returns-clause-some c = some_nearest

pub returns-clause-none : goal.returns-clause-none
returns-clause-none c = none_nearest
