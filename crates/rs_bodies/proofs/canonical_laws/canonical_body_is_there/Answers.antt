use Rattle.rs_bodies.proofs.CanonWhole.{canon_there}
use Rattle.rs_bodies.proofs.canonical_laws.canonical_body_is_there.Goals as goal

pub returns : goal.returns
returns c = canon_there
