use Rattle.rs_explain.proofs.Dying.{lost}
use Rattle.rs_explain.proofs.Existing.{start_dies}
use Rattle.rs_explain.proofs.laws.what_does_not_survive_dies_within_some_moves.Goals as goal

pub returns-clause-lost : goal.returns-clause-lost
returns-clause-lost c = lost

pub returns-clause-some : goal.returns-clause-some
returns-clause-some c = start_dies
