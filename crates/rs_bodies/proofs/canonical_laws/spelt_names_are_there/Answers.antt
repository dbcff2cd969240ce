use Rattle.rs_bodies.proofs.NumberedNames.{spelt_names}
use Rattle.rs_bodies.proofs.canonical_laws.spelt_names_are_there.Goals as goal

pub returns : goal.returns
returns c = spelt_names
