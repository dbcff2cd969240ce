use Rattle.rs_bodies.proofs.GraphLaws.{spelt_or_faulty}
use Rattle.rs_global.specs.Graph.{no_names}
use Rattle.rs_global.specs.Kinds.{protocols}
use Rattle.rs_global.proofs.Places.{is_kind}
use Rattle.rs_global.proofs.spelling_laws.text_is_spelt_or_has_a_fault.Goals as goal

pub returns : goal.returns
returns c = spelt_or_faulty protocols is_kind.made no_names
