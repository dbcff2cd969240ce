use Rattle.rs_safety.proofs.Sessions.{equal_safe}
use Rattle.rs_safety.proofs.laws.equal_sessions_are_safe.Goals as goal

pub returns : goal.returns
returns c = equal_safe
