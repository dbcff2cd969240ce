use Rattle.rs_bodies.proofs.GraphLaws.{complete}
use Rattle.rs_global.specs.Graph.{no_names}
use Rattle.rs_global.specs.Kinds.{protocols}
use Rattle.rs_global.proofs.Places.{is_kind}
use Rattle.rs_global.proofs.spelling_laws.spelling_is_read.Goals as goal

pub returns : goal.returns
returns c = complete protocols is_kind.made no_names
