use Rattle.rs_bodies.proofs.OneFault.{expected}
use Rattle.rs_bodies.specs.declared.dialects.Dialect.TheVariants.{Talks}
use Rattle.rs_global.specs.Graph.{no_names}
use Rattle.rs_global.proofs.fault_laws.expected_is_unexpected.Goals as goal

pub returns : goal.returns
returns c = expected Talks no_names
