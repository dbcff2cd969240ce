use Rattle.rs_wellformed.proofs.Examples.{one_talk_fits, self_talk_fails}
use Rattle.rs_wellformed.proofs.laws.one_talk_is_well_formed.Goals as goal

pub returns-clause-right : goal.returns-clause-right
returns-clause-right c = one_talk_fits

pub returns-clause-wrong : goal.returns-clause-wrong
returns-clause-wrong c = self_talk_fails
