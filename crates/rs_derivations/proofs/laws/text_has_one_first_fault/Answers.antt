use Rattle.rs_derivations.proofs.Spelt.{one_fault}
use Rattle.rs_derivations.proofs.laws.text_has_one_first_fault.Goals as goal

pub returns : goal.returns
returns c = one_fault
