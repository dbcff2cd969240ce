use Rattle.rs_bodies.proofs.CanonOne.{drawn_once}
use Rattle.rs_bodies.proofs.canonical_laws.canonical_body_is_one.Goals as goal

pub returns : goal.returns
returns c = λ d names places root x y spelt h k. drawn_once d names places root x y spelt h k
