use Rattle.rs_bodies.proofs.GraphsAgain.{lone_tree_spelt}
use Rattle.rs_machines.specs.Kinds.{machines}
use Rattle.rs_machines.proofs.printing_laws.lone_text_of_a_tree_spells_it.Goals as goal

pub returns : goal.returns
returns c = lone_tree_spelt machines
