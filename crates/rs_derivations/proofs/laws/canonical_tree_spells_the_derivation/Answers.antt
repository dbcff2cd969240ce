use Rattle.rs_derivations.proofs.Again.{spells_the_derivation}
use Rattle.rs_derivations.proofs.laws.canonical_tree_spells_the_derivation.Goals as goal

pub returns : goal.returns
returns c = spells_the_derivation
