use Rattle.rs_bodies.proofs.CanonWhole.{place_name_law}
use Rattle.rs_global.proofs.printing_laws.node_name_is_a_word.Goals as goal

pub returns : goal.returns
returns c = place_name_law
