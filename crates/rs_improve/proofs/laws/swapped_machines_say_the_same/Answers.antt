use Rattle.rs_improve.proofs.Words.{says_earlier, says_later}
use Rattle.rs_improve.proofs.laws.swapped_machines_say_the_same.Goals as goal

pub returns-clause-later : goal.returns-clause-later
returns-clause-later c = says_later

pub returns-clause-earlier : goal.returns-clause-earlier
returns-clause-earlier c = says_earlier
