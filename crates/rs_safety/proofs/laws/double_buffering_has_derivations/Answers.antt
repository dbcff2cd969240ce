use Rattle.rs_safety.proofs.Buffering.{well_formed_shown, projected, machines, derivations, other, room}
use Rattle.rs_safety.proofs.laws.double_buffering_has_derivations.Goals as goal

pub returns-clause-well_formed : goal.returns-clause-well_formed
returns-clause-well_formed c = well_formed_shown

pub returns-clause-projections : goal.returns-clause-projections
returns-clause-projections c = projected

pub returns-clause-machines : goal.returns-clause-machines
returns-clause-machines c = machines

pub returns-clause-derivations : goal.returns-clause-derivations
returns-clause-derivations c = derivations

pub returns-clause-other : goal.returns-clause-other
returns-clause-other c = other

pub returns-clause-room : goal.returns-clause-room
returns-clause-room c = room
