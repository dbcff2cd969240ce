use Rattle.rs_improve.proofs.Words.{same_receives, same_sends}
use Rattle.rs_improve.proofs.laws.words_that_send_earlier_have_the_same_acts.Goals as goal

pub returns-clause-sends : goal.returns-clause-sends
returns-clause-sends c = same_sends

pub returns-clause-receives : goal.returns-clause-receives
returns-clause-receives c = same_receives
