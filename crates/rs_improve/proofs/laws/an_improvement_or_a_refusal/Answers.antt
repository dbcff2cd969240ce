use Rattle.rs_improve.proofs.Existing.{improved_or_not}
use Rattle.rs_improve.proofs.laws.an_improvement_or_a_refusal.Goals as goal

pub returns-clause-either : goal.returns-clause-either
returns-clause-either c = improved_or_not

pub returns-clause-apart : goal.returns-clause-apart
returns-clause-apart c = λ above bound asked i f more. f.bounded more
