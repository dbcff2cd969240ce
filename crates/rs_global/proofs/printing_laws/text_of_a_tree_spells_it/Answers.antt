use Rattle.rs_bodies.proofs.GraphsAgain.{tree_spelt}
use Rattle.rs_global.specs.Graph.{no_names}
use Rattle.rs_global.specs.Kinds.{protocols}
use Rattle.rs_global.proofs.printing_laws.text_of_a_tree_spells_it.Goals as goal

pub returns : goal.returns
returns c = λ bytes at tree behind. tree_spelt protocols bytes at no_names tree behind
