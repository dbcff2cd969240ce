use Rattle.rs_explain.proofs.Existing.{certified, none_within}
use Rattle.rs_explain.proofs.laws.explanations_certify.Goals as goal

pub returns-clause-within : goal.returns-clause-within
returns-clause-within c = none_within

pub returns-clause-forced : goal.returns-clause-forced
returns-clause-forced c = certified
