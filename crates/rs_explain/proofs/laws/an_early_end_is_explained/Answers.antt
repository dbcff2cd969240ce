use Rattle.rs_explain.proofs.Small.{explained}
use Rattle.rs_explain.proofs.laws.an_early_end_is_explained.Goals as goal

pub returns : goal.returns
returns c = explained
