use Rattle.rs_model.proofs.Faults.{no_fault, right, blamed}
use Rattle.rs_model.proofs.laws.faults_of_machines.Goals as goal

pub returns-clause-none : goal.returns-clause-none
returns-clause-none c = λ m roles. (no_fault m roles, right m roles)

pub returns-clause-some : goal.returns-clause-some
returns-clause-some c = blamed
