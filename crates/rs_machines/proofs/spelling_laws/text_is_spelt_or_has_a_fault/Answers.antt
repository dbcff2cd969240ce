use Rattle.rs_bodies.proofs.GraphLaws.{spelt_or_faulty}
use Rattle.rs_machines.specs.Kinds.{machines}
use Rattle.rs_machines.proofs.Places.{is_kind}
use Rattle.rs_machines.proofs.spelling_laws.text_is_spelt_or_has_a_fault.Goals as goal

pub returns : goal.returns
returns c = spelt_or_faulty machines is_kind.made
