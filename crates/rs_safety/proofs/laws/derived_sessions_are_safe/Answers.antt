use Rattle.rs_safety.proofs.Reordered.{safe}
use Rattle.rs_safety.proofs.laws.derived_sessions_are_safe.Goals as goal

pub returns : goal.returns
returns c = safe
