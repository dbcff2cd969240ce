use Rattle.rs_machines.proofs.Examples.{spelt}
use Rattle.rs_machines.proofs.laws.example_is_spelt.Goals as goal

pub returns-clause-tree : goal.returns-clause-tree
returns-clause-tree c = spelt
