use Rattle.rs_machines.proofs.Canonical.{spelt_enough}
use Rattle.rs_machines.proofs.printing_laws.spelt_names_are_enough.Goals as goal

pub returns : goal.returns
returns c = spelt_enough
