use Rattle.rs_machines.proofs.Examples.{lacks}
use Rattle.rs_machines.proofs.laws.no_bytes_lack_a_machine.Goals as goal

pub returns : goal.returns
returns c = lacks
