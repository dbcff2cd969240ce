use Rattle.rs_run_pictures.proofs.OneRunPicture.{one_run_picture}
use Rattle.rs_run_pictures.proofs.laws.run_picture_is_one.Goals as goal

pub returns : goal.returns
returns c = one_run_picture
