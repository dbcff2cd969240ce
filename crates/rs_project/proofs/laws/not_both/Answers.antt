use Rattle.rs_project.proofs.OneProjection.{not_both_shown}
use Rattle.rs_project.proofs.laws.not_both.Goals as goal

pub returns : goal.returns
returns c = λ pr role p e h f. not_both_shown pr role p e h f
