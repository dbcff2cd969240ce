use Rattle.rs_bodies.proofs.GraphLaws.{first_fault}
use Rattle.rs_global.specs.Graph.{no_names}
use Rattle.rs_global.specs.Kinds.{protocols}
use Rattle.rs_global.proofs.fault_laws.told_fault_is_the_first.Goals as goal

pub returns : goal.returns
returns c = first_fault protocols no_names
