-- The sessions are safe, by computation.
use Rattle.std.proofs.Common.{◌≡◌, None, refl}
use Rattle.rs_model.specs.Faults as of_machines
use Rattle.rs_core.specs.Choices.{AreWellFormed}
use Rattle.rs_core.specs.Safety.{IsSafe}
use Rattle.rs_wellformed.specs.Faults as of_protocols
use Rattle.rs_wellformed.proofs.Faults as well_formed_protocols
use Rattle.rs_derive.specs.Faults as of_derivations
use Rattle.rs_safety.specs.Sessions.{AreDerivations}
use Rattle.rs_safety.proofs.Computed.{projections_are}
use Rattle.rs_safety.proofs.Tested.{machines_are, derivations_are}
use Rattle.rs_safety.proofs.Sessions.{equal_safe}
use Rattle.rs_safety.proofs.Reordered.{safe}
use Rattle.benches.specs.Sessions.{stream, machines_of_stream, relay, machines_of_relay, rounds, projections_of_rounds, machines_of_rounds}
use Rattle.benches.proofs.BenchSessions.{projections_of_stream, projections_of_relay}
use Rattle.benches.specs.Sessions.{swap, machines_of_swap}
use Rattle.benches.proofs.BenchSessions.{derivations_of_rounds, projections_of_swap, derivations_of_swap}

passes_stream : of_protocols.first_fault stream ≡ None
unfolding of_protocols.first_fault
passes_stream = refl

passes_relay : of_protocols.first_fault relay ≡ None
unfolding of_protocols.first_fault
passes_relay = refl

passes_rounds : of_protocols.first_fault rounds ≡ None
unfolding of_protocols.first_fault
passes_rounds = refl

passes_swap : of_protocols.first_fault swap ≡ None
unfolding of_protocols.first_fault
passes_swap = refl

pub is_stream_fits : AreWellFormed machines_of_stream
unfolding of_machines.first_fault
is_stream_fits = machines_are machines_of_stream (refl, refl, (refl, refl, tt))

pub is_relay_fits : AreWellFormed machines_of_relay
unfolding of_machines.first_fault
is_relay_fits = machines_are machines_of_relay (refl, refl, (refl, refl, (refl, refl, tt)))

pub is_rounds_fit : AreWellFormed machines_of_rounds
unfolding of_machines.first_fault
is_rounds_fit = machines_are machines_of_rounds (refl, refl, (refl, refl, tt))

pub is_swap_fits : AreWellFormed machines_of_swap
unfolding of_machines.first_fault
is_swap_fits = machines_are machines_of_swap (refl, refl, (refl, refl, tt))

derive_rounds : AreDerivations machines_of_rounds projections_of_rounds derivations_of_rounds
unfolding of_derivations.first_fault
derive_rounds = derivations_are machines_of_rounds projections_of_rounds derivations_of_rounds (refl, (refl, tt))

derive_swap : AreDerivations machines_of_swap projections_of_swap derivations_of_swap
unfolding of_derivations.first_fault
derive_swap = derivations_are machines_of_swap projections_of_swap derivations_of_swap (refl, (refl, tt))

pub is_stream_safe : IsSafe machines_of_stream
is_stream_safe = equal_safe stream projections_of_stream machines_of_stream (well_formed_protocols.no_fault stream passes_stream) (projections_are stream 4 projections_of_stream refl refl) refl

pub is_relay_safe : IsSafe machines_of_relay
is_relay_safe = equal_safe relay projections_of_relay machines_of_relay (well_formed_protocols.no_fault relay passes_relay) (projections_are relay 4 projections_of_relay refl refl) refl

pub is_rounds_safe : IsSafe machines_of_rounds
is_rounds_safe = safe rounds projections_of_rounds machines_of_rounds derivations_of_rounds
    record {
      well_formed = well_formed_protocols.no_fault rounds passes_rounds;
      projected = projections_are rounds 4 projections_of_rounds refl refl;
      a_machine_each = refl;
      machines_fit = is_rounds_fit;
      derived = derive_rounds;
    }

pub is_swap_safe : IsSafe machines_of_swap
is_swap_safe = safe swap projections_of_swap machines_of_swap derivations_of_swap
    record {
      well_formed = well_formed_protocols.no_fault swap passes_swap;
      projected = projections_are swap 4 projections_of_swap refl refl;
      a_machine_each = refl;
      machines_fit = is_swap_fits;
      derived = derive_swap;
    }
