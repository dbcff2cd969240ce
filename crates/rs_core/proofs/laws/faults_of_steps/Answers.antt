use Rattle.rs_core.proofs.StepFaults.{blamed, no_fault}
use Rattle.rs_core.proofs.laws.faults_of_steps.Goals as goal

pub returns-clause-none : goal.returns-clause-none
returns-clause-none c = no_fault

pub returns-clause-some : goal.returns-clause-some
returns-clause-some c = blamed
