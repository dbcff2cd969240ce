use Rattle.rs_partings.proofs.Rounds.{has_its_node}
use Rattle.rs_partings.proofs.laws.waiting_rounds_have_their_node.Goals as goal

pub returns : goal.returns
returns c = λ pr role n talks u are. has_its_node pr role n talks u are
