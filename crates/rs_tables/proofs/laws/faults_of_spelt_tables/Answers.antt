use Rattle.rs_tables.proofs.TableFaults.{spelt_fault}
use Rattle.rs_tables.proofs.laws.faults_of_spelt_tables.Goals as goal

pub returns : goal.returns
returns c = spelt_fault
