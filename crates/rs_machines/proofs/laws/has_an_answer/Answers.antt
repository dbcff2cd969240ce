use Rattle.rs_bodies.proofs.GraphLaws.{an_answer}
use Rattle.rs_machines.specs.Kinds.{machines}
use Rattle.rs_machines.proofs.laws.has_an_answer.Goals as goal

pub returns : goal.returns
returns c = an_answer machines
