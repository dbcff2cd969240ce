use Rattle.rs_bodies.proofs.GraphLaws.{first_fault}
use Rattle.rs_machines.specs.Kinds.{machines}
use Rattle.rs_machines.proofs.fault_laws.told_fault_is_the_first.Goals as goal

pub returns : goal.returns
returns c = first_fault machines
