use Rattle.rs_partings.specs.Partings.{PartsAt}
use Rattle.rs_partings.proofs.Places.{one_at_most}
use Rattle.rs_partings.proofs.laws.one_parting_at_most.Goals as goal

pub returns : goal.returns
returns c = λ pr role a b p q f g. one_at_most (λ talk one other. PartsAt pr role a b talk one other) p q f g
