use Rattle.rs_run_pictures.proofs.OneRunPicture.{same_verdict}
use Rattle.rs_run_pictures.proofs.laws.verdict_is_that_of_run.Goals as goal

pub returns : goal.returns
returns c = same_verdict
