use Rattle.rs_pictures.proofs.OnePicture.{some_picture}
use Rattle.rs_pictures.proofs.laws.picture_is_there.Goals as goal

pub returns : goal.returns
returns c = some_picture
