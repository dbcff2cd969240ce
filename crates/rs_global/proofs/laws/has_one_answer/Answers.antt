use Rattle.rs_bodies.proofs.GraphLaws.{one_answer}
use Rattle.rs_global.specs.Graph.{no_names}
use Rattle.rs_global.specs.Kinds.{protocols}
use Rattle.rs_global.proofs.laws.has_one_answer.Goals as goal

pub returns : goal.returns
returns c = one_answer protocols no_names
