use Rattle.rs_pictures.proofs.Arrows.{arrows_are_messages}
use Rattle.rs_pictures.proofs.laws.arrows_are_the_messages.Goals as goal

pub returns : goal.returns
returns c = λ names protocol text test shaped sound enough picture. arrows_are_messages names protocol picture.tree test shaped sound enough picture.canonical
