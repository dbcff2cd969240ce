use Rattle.rs_monitor.proofs.Reaching.{reachable}
use Rattle.rs_monitor.proofs.laws.monitored_runs_are_reachable.Goals as goal

pub returns : goal.returns
returns c = reachable
