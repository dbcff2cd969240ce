use Rattle.rs_bodies.proofs.OneFault.{begins_before}
use Rattle.rs_bodies.specs.declared.dialects.Dialect.TheVariants.{Acts}
use Rattle.rs_machines.proofs.fault_laws.tokens_before_the_fault_begin_a_machine.Goals as goal

pub returns : goal.returns
returns c = begins_before Acts
