use Rattle.rs_open.proofs.Opened.{not_both}
use Rattle.rs_open.proofs.laws.opened_texts_are_not_refused.Goals as goal

pub returns : goal.returns
returns c = not_both
