use Rattle.rs_partings.proofs.Rounds.{one_round}
use Rattle.rs_partings.proofs.laws.one_round_at_most.Goals as goal

pub returns : goal.returns
returns c = λ pr role n xs ys a b. one_round pr role n xs ys a b
