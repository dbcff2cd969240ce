use Rattle.rs_bodies.proofs.OneFault.{begins_before}
use Rattle.rs_bodies.specs.declared.dialects.Dialect.TheVariants.{Talks}
use Rattle.rs_global.specs.Graph.{no_names}
use Rattle.rs_global.proofs.fault_laws.tokens_before_the_fault_begin_a_protocol.Goals as goal

pub returns : goal.returns
returns c = begins_before Talks no_names
