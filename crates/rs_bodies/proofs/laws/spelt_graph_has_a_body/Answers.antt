use Rattle.rs_bodies.proofs.ShapeWhole.{spelt_has_body}
use Rattle.rs_bodies.proofs.laws.spelt_graph_has_a_body.Goals as goal

pub returns : goal.returns
returns c = spelt_has_body
