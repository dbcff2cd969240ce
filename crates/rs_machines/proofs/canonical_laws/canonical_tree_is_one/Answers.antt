use Rattle.rs_bodies.proofs.GraphsAgain.{one_tree}
use Rattle.rs_machines.proofs.Places.{spelt}
use Rattle.rs_machines.specs.Kinds.{machines}
use Rattle.rs_machines.proofs.canonical_laws.canonical_tree_is_one.Goals as goal

pub returns : goal.returns
returns c = λ names machine x y shaped. one_tree machines names machine x y (spelt machine shaped)
