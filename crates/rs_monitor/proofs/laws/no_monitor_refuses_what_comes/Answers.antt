use Rattle.rs_monitor.proofs.Reaching.{takes_what_comes}
use Rattle.rs_monitor.proofs.laws.no_monitor_refuses_what_comes.Goals as goal

pub returns : goal.returns
returns c = takes_what_comes
