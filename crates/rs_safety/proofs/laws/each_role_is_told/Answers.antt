use Rattle.rs_safety.proofs.Refused.{not_told_shown}
use Rattle.rs_safety.proofs.laws.each_role_is_told.Goals as goal

pub returns : goal.returns
returns c = not_told_shown
