use Rattle.rs_bodies.proofs.GraphLaws.{no_fault}
use Rattle.rs_global.specs.Graph.{no_names}
use Rattle.rs_global.specs.Kinds.{protocols}
use Rattle.rs_global.proofs.fault_laws.read_text_has_no_fault.Goals as goal

pub returns : goal.returns
returns c = no_fault protocols no_names
