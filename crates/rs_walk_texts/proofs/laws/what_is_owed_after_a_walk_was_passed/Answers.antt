use Rattle.rs_walk_texts.proofs.StillOwed.{owed_was_passed}
use Rattle.rs_walk_texts.proofs.laws.what_is_owed_after_a_walk_was_passed.Goals as goal

pub returns : goal.returns
returns c = owed_was_passed
