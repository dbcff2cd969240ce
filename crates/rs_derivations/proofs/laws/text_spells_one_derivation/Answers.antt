use Rattle.rs_derivations.proofs.Spelt.{one_spelling}
use Rattle.rs_derivations.proofs.laws.text_spells_one_derivation.Goals as goal

pub returns : goal.returns
returns c = one_spelling
