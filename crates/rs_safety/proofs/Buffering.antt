-- Double buffering meets all that is asked of a session with derivations.
use Rattle.std.proofs.Common.{◌≡◌, ◌≢◌, None, slice_get, refl, ap}
use Rattle.rs_model.specs.Data.{Machine_data}
use Rattle.rs_model.specs.Faults as of_machines
use Rattle.rs_wellformed.specs.Faults as of_protocols
use Rattle.rs_wellformed.specs.WellFormed.{IsWellFormed}
use Rattle.rs_wellformed.proofs.Faults as well_formed_protocols
use Rattle.rs_project.specs.Projection.{AreProjections}
use Rattle.rs_derive.specs.Faults as of_derivations
use Rattle.rs_safety.specs.Buffering.{buffering, kernel_ahead, projection_for_kernel, projections_of_buffering, machines_of_buffering, derivations_of_buffering}
use Rattle.rs_safety.specs.Room.{room_of}
use Rattle.rs_core.specs.Choices.{AreWellFormed}
use Rattle.rs_safety.specs.Sessions.{AreDerivations}
use Rattle.rs_safety.proofs.Computed.{projections_are}
use Rattle.rs_safety.proofs.Tested.{machines_are, derivations_are}

protocol_passes : of_protocols.first_fault buffering ≡ None
unfolding of_protocols.first_fault
protocol_passes = refl

pub well_formed_shown : IsWellFormed buffering
well_formed_shown = well_formed_protocols.no_fault buffering protocol_passes

-- every walk comes within three steps to a talk of any role, or to the end
pub projected : AreProjections buffering projections_of_buffering
projected = projections_are buffering 4 projections_of_buffering refl refl

pub machines : AreWellFormed machines_of_buffering
unfolding of_machines.first_fault
machines = machines_are machines_of_buffering (refl, refl, (refl, refl, (refl, refl, tt)))

pub derivations : AreDerivations machines_of_buffering projections_of_buffering derivations_of_buffering
unfolding of_derivations.first_fault
derivations = derivations_are machines_of_buffering projections_of_buffering derivations_of_buffering (refl, (refl, (refl, tt)))

pub other : kernel_ahead ≢ projection_for_kernel.machine
other e = let second = ap (λ (m : Machine_data). slice_get m.states 1) e in absurd (cc (second))

pub room : room_of derivations_of_buffering ≡ 16
room = refl
