use Rattle.rs_answers.proofs.SpeltFaults.{faults_of_spelt}
use Rattle.rs_answers.proofs.laws.faults_of_spelt_protocols.Goals as goal

pub returns : goal.returns
returns c = faults_of_spelt
