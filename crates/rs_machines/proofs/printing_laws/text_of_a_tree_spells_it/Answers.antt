use Rattle.rs_bodies.proofs.GraphsAgain.{tree_spelt}
use Rattle.rs_machines.specs.Kinds.{machines}
use Rattle.rs_machines.proofs.printing_laws.text_of_a_tree_spells_it.Goals as goal

pub returns : goal.returns
returns c = tree_spelt machines
