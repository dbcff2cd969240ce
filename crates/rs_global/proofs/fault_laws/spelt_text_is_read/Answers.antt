use Rattle.rs_bodies.proofs.GraphLaws.{spelt_is_read}
use Rattle.rs_global.specs.Graph.{no_names}
use Rattle.rs_global.specs.Kinds.{protocols}
use Rattle.rs_global.proofs.Places.{is_kind}
use Rattle.rs_global.proofs.fault_laws.spelt_text_is_read.Goals as goal

pub returns : goal.returns
returns c = spelt_is_read protocols is_kind.made no_names
