use Rattle.rs_runs.proofs.Stopping.{never_stopped}
use Rattle.rs_runs.proofs.laws.runs_of_demos_are_never_stopped.Goals as goal

pub returns : goal.returns
returns c = never_stopped
