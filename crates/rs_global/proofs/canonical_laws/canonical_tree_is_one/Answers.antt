use Rattle.rs_bodies.proofs.GraphsAgain.{one_tree}
use Rattle.rs_global.proofs.Places.{spelt}
use Rattle.rs_global.specs.Kinds.{protocols}
use Rattle.rs_global.proofs.canonical_laws.canonical_tree_is_one.Goals as goal

pub returns : goal.returns
returns c = λ names protocol x y shaped. one_tree protocols names protocol x y (spelt protocol shaped)
