use Rattle.rs_improve.proofs.SwapLaws.{swapped_well_formed}
use Rattle.rs_improve.proofs.laws.swapped_machines_are_well_formed.Goals as goal

pub returns : goal.returns
returns c = swapped_well_formed
