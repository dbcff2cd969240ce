use Rattle.rs_bodies.proofs.GraphLaws.{sound}
use Rattle.rs_machines.specs.Kinds.{machines}
use Rattle.rs_machines.proofs.Places.{is_kind}
use Rattle.rs_machines.proofs.spelling_laws.read_text_is_spelt.Goals as goal

pub returns : goal.returns
returns c = sound machines is_kind.made
