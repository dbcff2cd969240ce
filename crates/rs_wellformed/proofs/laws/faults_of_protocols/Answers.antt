use Rattle.rs_wellformed.proofs.Faults.{no_fault, right, blamed}
use Rattle.rs_wellformed.proofs.laws.faults_of_protocols.Goals as goal

pub returns-clause-none : goal.returns-clause-none
returns-clause-none c = λ p. (no_fault p, right p)

pub returns-clause-some : goal.returns-clause-some
returns-clause-some c = blamed
