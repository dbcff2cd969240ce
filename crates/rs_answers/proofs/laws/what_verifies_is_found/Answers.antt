use Rattle.rs_answers.proofs.Agreeing.{verified_is_found}
use Rattle.rs_answers.proofs.laws.what_verifies_is_found.Goals as goal

pub returns : goal.returns
returns c = verified_is_found
