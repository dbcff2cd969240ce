use Rattle.rs_bodies.proofs.OneFault.{one_fault}
use Rattle.rs_bodies.specs.declared.dialects.Dialect.TheVariants.{Acts}
use Rattle.rs_machines.proofs.fault_laws.text_has_one_first_fault.Goals as goal

pub returns : goal.returns
returns c = one_fault Acts
