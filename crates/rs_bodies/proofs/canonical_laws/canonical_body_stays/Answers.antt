use Rattle.rs_bodies.proofs.Moved.{draws_stays}
use Rattle.rs_bodies.proofs.canonical_laws.canonical_body_stays.Goals as goal

pub returns : goal.returns
returns c = λ d names others places root body stay drawn. draws_stays body names others places 0 root stay drawn
