use Rattle.rs_bodies.proofs.GraphLaws.{one_spelling}
use Rattle.rs_global.specs.Graph.{no_names}
use Rattle.rs_global.specs.Kinds.{protocols}
use Rattle.rs_global.proofs.Places.{is_kind}
use Rattle.rs_global.proofs.spelling_laws.text_spells_one_protocol.Goals as goal

pub returns : goal.returns
returns c = one_spelling protocols is_kind.made no_names
