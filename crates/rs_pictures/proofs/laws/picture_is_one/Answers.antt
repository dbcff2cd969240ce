use Rattle.rs_pictures.proofs.OnePicture.{one_picture}
use Rattle.rs_pictures.proofs.laws.picture_is_one.Goals as goal

pub returns : goal.returns
returns c = one_picture
