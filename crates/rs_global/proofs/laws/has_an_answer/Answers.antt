use Rattle.rs_bodies.proofs.GraphLaws.{an_answer}
use Rattle.rs_global.specs.Graph.{no_names}
use Rattle.rs_global.specs.Kinds.{protocols}
use Rattle.rs_global.proofs.laws.has_an_answer.Goals as goal

pub returns : goal.returns
returns c = an_answer protocols no_names
