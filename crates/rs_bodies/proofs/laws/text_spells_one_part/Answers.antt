use Rattle.rs_bodies.proofs.SpeltLaws.{one_spelling}
use Rattle.rs_bodies.proofs.laws.text_spells_one_part.Goals as goal

pub returns : goal.returns
returns c = one_spelling
