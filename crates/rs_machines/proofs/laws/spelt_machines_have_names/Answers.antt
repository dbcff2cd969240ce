use Rattle.rs_machines.proofs.NamedStates.{has_names}
use Rattle.rs_machines.proofs.laws.spelt_machines_have_names.Goals as goal

pub returns : goal.returns
returns c = has_names
