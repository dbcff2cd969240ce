use Rattle.rs_bodies.proofs.GraphLaws.{spelt_no_fault}
use Rattle.rs_machines.specs.Kinds.{machines}
use Rattle.rs_machines.proofs.fault_laws.spelt_text_has_no_fault.Goals as goal

pub returns : goal.returns
returns c = spelt_no_fault machines
