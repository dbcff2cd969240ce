use Rattle.rs_bodies.proofs.GraphLaws.{tells}
use Rattle.rs_machines.specs.Kinds.{machines}
use Rattle.rs_machines.proofs.fault_laws.first_fault_is_told.Goals as goal

pub returns : goal.returns
returns c = tells machines
