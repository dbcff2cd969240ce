use Rattle.rs_bodies.proofs.GraphLaws.{tells}
use Rattle.rs_global.specs.Graph.{no_names}
use Rattle.rs_global.specs.Kinds.{protocols}
use Rattle.rs_global.proofs.fault_laws.first_fault_is_told.Goals as goal

pub returns : goal.returns
returns c = tells protocols no_names
