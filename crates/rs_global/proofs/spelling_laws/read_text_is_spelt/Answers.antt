use Rattle.rs_bodies.proofs.GraphLaws.{sound}
use Rattle.rs_global.specs.Graph.{no_names}
use Rattle.rs_global.specs.Kinds.{protocols}
use Rattle.rs_global.proofs.Places.{is_kind}
use Rattle.rs_global.proofs.spelling_laws.read_text_is_spelt.Goals as goal

pub returns : goal.returns
returns c = sound protocols is_kind.made no_names
