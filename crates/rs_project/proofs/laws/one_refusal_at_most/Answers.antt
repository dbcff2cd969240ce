use Rattle.rs_project.proofs.OneAnswer.{one_refusal_shown}
use Rattle.rs_project.proofs.laws.one_refusal_at_most.Goals as goal

pub returns : goal.returns
returns c = λ pr role e e' h k. one_refusal_shown pr role e e' h k
