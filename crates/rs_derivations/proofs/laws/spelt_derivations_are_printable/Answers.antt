use Rattle.rs_derivations.proofs.Writable.{spelt_printable}
use Rattle.rs_derivations.proofs.laws.spelt_derivations_are_printable.Goals as goal

pub returns : goal.returns
returns c = spelt_printable
