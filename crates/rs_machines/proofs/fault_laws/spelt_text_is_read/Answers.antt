use Rattle.rs_bodies.proofs.GraphLaws.{spelt_is_read}
use Rattle.rs_machines.specs.Kinds.{machines}
use Rattle.rs_machines.proofs.Places.{is_kind}
use Rattle.rs_machines.proofs.fault_laws.spelt_text_is_read.Goals as goal

pub returns : goal.returns
returns c = spelt_is_read machines is_kind.made
