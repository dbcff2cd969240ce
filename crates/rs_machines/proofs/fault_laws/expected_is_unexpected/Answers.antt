use Rattle.rs_bodies.proofs.OneFault.{expected}
use Rattle.rs_bodies.specs.declared.dialects.Dialect.TheVariants.{Acts}
use Rattle.rs_machines.proofs.fault_laws.expected_is_unexpected.Goals as goal

pub returns : goal.returns
returns c = expected Acts
