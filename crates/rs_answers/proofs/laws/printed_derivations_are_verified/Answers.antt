use Rattle.rs_answers.proofs.ReadAgain.{printed_is_verified}
use Rattle.rs_answers.proofs.laws.printed_derivations_are_verified.Goals as goal

pub returns : goal.returns
returns c = printed_is_verified
