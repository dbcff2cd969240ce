use Rattle.rs_derivations.proofs.Again.{spelt_canonically}
use Rattle.rs_derivations.proofs.laws.spelt_derivations_are_spelt_canonically.Goals as goal

pub returns : goal.returns
returns c = spelt_canonically
