use Rattle.rs_held.proofs.Explained.{not_opened}
use Rattle.rs_held.proofs.laws.explained_texts_are_not_opened.Goals as goal

pub returns : goal.returns
returns c = not_opened
