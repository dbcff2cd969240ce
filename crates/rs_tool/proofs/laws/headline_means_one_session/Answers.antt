use Rattle.rs_tool.proofs.OneSession.{one_session_shown}
use Rattle.rs_tool.proofs.laws.headline_means_one_session.Goals as goal

pub returns : goal.returns
returns c = one_session_shown
