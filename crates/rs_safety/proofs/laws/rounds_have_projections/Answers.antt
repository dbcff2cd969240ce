use Rattle.rs_safety.proofs.Rounds.{well_formed_shown, projected}
use Rattle.rs_safety.proofs.laws.rounds_have_projections.Goals as goal

pub returns-clause-well_formed : goal.returns-clause-well_formed
returns-clause-well_formed c = well_formed_shown

pub returns-clause-projections : goal.returns-clause-projections
returns-clause-projections c = projected
