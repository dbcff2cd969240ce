use Rattle.rs_project.proofs.Machines.{projection_machine}
use Rattle.rs_project.proofs.laws.projections_are_well_formed.Goals as goal

pub returns : goal.returns
returns c = projection_machine
