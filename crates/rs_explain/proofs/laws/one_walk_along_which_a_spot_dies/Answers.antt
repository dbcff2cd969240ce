use Rattle.rs_explain.proofs.Dying.{dying_after, dying_dead, latest, one_dying, some_dying, soonest}
use Rattle.rs_explain.proofs.laws.one_walk_along_which_a_spot_dies.Goals as goal

pub returns-clause-some : goal.returns-clause-some
returns-clause-some c = some_dying

pub returns-clause-one : goal.returns-clause-one
returns-clause-one c = one_dying

pub returns-clause-length : goal.returns-clause-length
returns-clause-length c = dying_after

pub returns-clause-ends : goal.returns-clause-ends
returns-clause-ends c = dying_dead

pub returns-clause-soonest : goal.returns-clause-soonest
returns-clause-soonest c = soonest

pub returns-clause-latest : goal.returns-clause-latest
returns-clause-latest c = latest
