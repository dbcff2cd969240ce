use Rattle.rs_bodies.proofs.GraphLaws.{one_answer}
use Rattle.rs_machines.specs.Kinds.{machines}
use Rattle.rs_machines.proofs.laws.has_one_answer.Goals as goal

pub returns : goal.returns
returns c = one_answer machines
