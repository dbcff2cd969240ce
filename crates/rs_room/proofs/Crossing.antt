-- Two roles that send to each other before they receive: their session has derivations.
use Rattle.std.proofs.Common.{◌≡◌, None, refl}
use Rattle.rs_model.specs.Faults as of_machines
use Rattle.rs_wellformed.specs.Faults as of_protocols
use Rattle.rs_wellformed.specs.WellFormed.{IsWellFormed}
use Rattle.rs_wellformed.proofs.Faults as well_formed_protocols
use Rattle.rs_project.specs.Projection.{AreProjections}
use Rattle.rs_derive.specs.Faults as of_derivations
use Rattle.rs_room.specs.Crossing.{crossing, projections_of_crossing, machines_of_crossing, derivations_of_crossing}
use Rattle.rs_safety.specs.Room.{room_of}
use Rattle.rs_core.specs.Choices.{AreWellFormed}
use Rattle.rs_safety.specs.Sessions.{AreDerivations}
use Rattle.rs_safety.proofs.Computed.{projections_are}
use Rattle.rs_safety.proofs.Tested.{machines_are, derivations_are}

protocol_passes : of_protocols.first_fault crossing ≡ None
unfolding of_protocols.first_fault
protocol_passes = refl

pub well_formed_shown : IsWellFormed crossing
well_formed_shown = well_formed_protocols.no_fault crossing protocol_passes

pub projected : AreProjections crossing projections_of_crossing
projected = projections_are crossing 2 projections_of_crossing refl refl

pub machines : AreWellFormed machines_of_crossing
unfolding of_machines.first_fault
machines = machines_are machines_of_crossing (refl, refl, (refl, refl, tt))

pub derivations : AreDerivations machines_of_crossing projections_of_crossing derivations_of_crossing
unfolding of_derivations.first_fault
derivations = derivations_are machines_of_crossing projections_of_crossing derivations_of_crossing (refl, (refl, tt))

pub room : room_of derivations_of_crossing ≡ 11
room = refl
