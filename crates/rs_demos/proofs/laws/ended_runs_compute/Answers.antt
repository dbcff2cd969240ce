use Rattle.rs_demos.proofs.Computing.{ended_run}
use Rattle.rs_demos.proofs.laws.ended_runs_compute.Goals as goal

pub returns : goal.returns
returns c = ended_run
