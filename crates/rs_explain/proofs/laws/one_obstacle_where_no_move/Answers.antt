use Rattle.rs_explain.proofs.Blocking.{no_move, one_obstacle, some_obstacle}
use Rattle.rs_explain.proofs.laws.one_obstacle_where_no_move.Goals as goal

pub returns-clause-one : goal.returns-clause-one
returns-clause-one c = one_obstacle

pub returns-clause-none : goal.returns-clause-none
returns-clause-none c = no_move

pub returns-clause-some : goal.returns-clause-some
returns-clause-some c = some_obstacle
