use Rattle.rs_actors.specs.Choosing.{is_found}
use Rattle.rs_actors.proofs.Playing.{nowhere}
use Rattle.rs_actors.proofs.laws.the_first_arm_is_taken.Goals as goal

pub returns-clause-some : goal.returns-clause-some
returns-clause-some c sort arms place e = is_found arms sort place e

pub returns-clause-none : goal.returns-clause-none
returns-clause-none c sort arms place arm e stands serves = nowhere arms sort 0 place arm e stands serves
