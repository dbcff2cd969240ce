use Rattle.rs_bodies.proofs.GraphsAgain.{lone_tree_spelt}
use Rattle.rs_global.specs.Graph.{no_names}
use Rattle.rs_global.specs.Kinds.{protocols}
use Rattle.rs_global.proofs.printing_laws.lone_text_of_a_tree_spells_it.Goals as goal

pub returns : goal.returns
returns c = lone_tree_spelt protocols no_names
