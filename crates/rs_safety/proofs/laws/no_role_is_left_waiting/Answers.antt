use Rattle.rs_safety.proofs.Refused.{left_waiting_shown}
use Rattle.rs_safety.proofs.laws.no_role_is_left_waiting.Goals as goal

pub returns : goal.returns
returns c = left_waiting_shown
