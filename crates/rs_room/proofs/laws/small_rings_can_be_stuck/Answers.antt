use Rattle.rs_room.proofs.Crossing.{well_formed_shown, projected, machines, derivations, room}
use Rattle.rs_room.proofs.StuckCrossing.{can_be_stuck}
use Rattle.rs_room.proofs.laws.small_rings_can_be_stuck.Goals as goal

pub returns-clause-well_formed : goal.returns-clause-well_formed
returns-clause-well_formed c = well_formed_shown

pub returns-clause-projections : goal.returns-clause-projections
returns-clause-projections c = projected

pub returns-clause-machines : goal.returns-clause-machines
returns-clause-machines c = machines

pub returns-clause-derivations : goal.returns-clause-derivations
returns-clause-derivations c = derivations

pub returns-clause-room : goal.returns-clause-room
returns-clause-room c = room

pub returns-clause-stuck : goal.returns-clause-stuck
returns-clause-stuck c = can_be_stuck
