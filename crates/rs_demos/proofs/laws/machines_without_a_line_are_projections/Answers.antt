use Rattle.rs_demos.proofs.Projected.{projected}
use Rattle.rs_demos.proofs.laws.machines_without_a_line_are_projections.Goals as goal

pub returns : goal.returns
returns c = projected
