-- A small protocol with a choice and recursion, and its projections.
use Rattle.std.proofs.Common.{◌≡◌, None, refl}
use Rattle.rs_wellformed.specs.Faults as of_protocols
use Rattle.rs_wellformed.specs.WellFormed.{IsWellFormed}
use Rattle.rs_wellformed.proofs.Faults as well_formed_protocols
use Rattle.rs_project.specs.Projection.{AreProjections}
use Rattle.rs_safety.specs.Examples.{rounds, projections_of_rounds}
use Rattle.rs_safety.proofs.Computed.{projections_are}

protocol_passes : of_protocols.first_fault rounds ≡ None
unfolding of_protocols.first_fault
protocol_passes = refl

pub well_formed_shown : IsWellFormed rounds
well_formed_shown = well_formed_protocols.no_fault rounds protocol_passes

-- every walk comes within three steps to a talk of any role, or to the end
pub projected : AreProjections rounds projections_of_rounds
projected = projections_are rounds 4 projections_of_rounds refl refl
