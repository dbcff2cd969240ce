use Rattle.rs_open.proofs.Opened.{not_verified_and_refused}
use Rattle.rs_open.proofs.laws.verified_texts_are_not_refused.Goals as goal

pub returns : goal.returns
returns c = not_verified_and_refused
