use Rattle.rs_bodies.proofs.GraphLaws.{one_spelling}
use Rattle.rs_machines.specs.Kinds.{machines}
use Rattle.rs_machines.proofs.Places.{is_kind}
use Rattle.rs_machines.proofs.spelling_laws.text_spells_one_machine.Goals as goal

pub returns : goal.returns
returns c = one_spelling machines is_kind.made
