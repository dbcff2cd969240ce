use Rattle.rs_bodies.proofs.GraphLaws.{no_fault}
use Rattle.rs_machines.specs.Kinds.{machines}
use Rattle.rs_machines.proofs.fault_laws.read_text_has_no_fault.Goals as goal

pub returns : goal.returns
returns c = no_fault machines
