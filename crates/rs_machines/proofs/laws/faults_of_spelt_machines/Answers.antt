use Rattle.rs_machines.proofs.SpeltShapes.{faults_of_text}
use Rattle.rs_machines.proofs.laws.faults_of_spelt_machines.Goals as goal

pub returns : goal.returns
returns c = faults_of_text
