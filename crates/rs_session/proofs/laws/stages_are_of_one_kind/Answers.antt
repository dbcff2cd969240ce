use Rattle.rs_session.proofs.OneKind.{ends_or_receives, sends_or_ends, sends_or_receives}
use Rattle.rs_session.proofs.laws.stages_are_of_one_kind.Goals as goal

pub returns-clause-sends : goal.returns-clause-sends
returns-clause-sends c = sends_or_receives

pub returns-clause-ends : goal.returns-clause-ends
returns-clause-ends c = sends_or_ends

pub returns-clause-receives : goal.returns-clause-receives
returns-clause-receives c = ends_or_receives
