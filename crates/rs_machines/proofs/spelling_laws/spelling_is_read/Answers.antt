use Rattle.rs_bodies.proofs.GraphLaws.{complete}
use Rattle.rs_machines.specs.Kinds.{machines}
use Rattle.rs_machines.proofs.Places.{is_kind}
use Rattle.rs_machines.proofs.spelling_laws.spelling_is_read.Goals as goal

pub returns : goal.returns
returns c = complete machines is_kind.made
