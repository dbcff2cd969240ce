use Rattle.rs_bodies.specs.Spellings.{spelling_of}
use Rattle.rs_bodies.proofs.PrintedTrees.{part_spelt}
use Rattle.rs_bodies.proofs.canonical_laws.text_of_a_part_spells_it.Goals as goal

pub returns : goal.returns
returns c = λ d. part_spelt d (spelling_of d)
