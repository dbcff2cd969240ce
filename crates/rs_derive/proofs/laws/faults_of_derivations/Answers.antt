use Rattle.rs_derive.proofs.Blame.{blamed}
use Rattle.rs_derive.proofs.Whole.{no_fault, no_fault_back}
use Rattle.rs_derive.proofs.laws.faults_of_derivations.Goals as goal

pub returns-clause-none : goal.returns-clause-none
returns-clause-none c = λ d sub above. (no_fault d sub above, no_fault_back d sub above)

pub returns-clause-some : goal.returns-clause-some
returns-clause-some c = blamed
