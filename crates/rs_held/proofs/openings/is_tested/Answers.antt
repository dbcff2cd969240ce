use Rattle.std.proofs.Common.{rules}
use Rattle.rs_held.proofs.Explained.{has_one, lacks_one}
use Rattle.rs_held.proofs.openings.is_tested.Goals as goal

pub returns-in-Ok : goal.returns-in-Ok
returns-in-Ok c = has_one _ _ _ (search rules) c.in-Ok.ensures.ok

pub returns-in-Err : goal.returns-in-Err
returns-in-Err c = lacks_one _ c.in-Err.refusal _ c.in-Err.ensures.err c.without_session.ensures
