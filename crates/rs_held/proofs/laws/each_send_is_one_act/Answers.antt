use Rattle.rs_held.proofs.Copying.{copies_one, sends_one}
use Rattle.rs_held.proofs.laws.each_send_is_one_act.Goals as goal

pub returns-clause-values : goal.returns-clause-values
returns-clause-values c = sends_one

pub returns-clause-copies : goal.returns-clause-copies
returns-clause-copies c = copies_one
