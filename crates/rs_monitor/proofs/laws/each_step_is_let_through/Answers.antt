use Rattle.rs_monitor.proofs.Reaching.{through}
use Rattle.rs_monitor.proofs.laws.each_step_is_let_through.Goals as goal

pub returns : goal.returns
returns c = through
