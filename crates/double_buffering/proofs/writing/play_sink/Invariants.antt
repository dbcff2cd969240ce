use Rattle.rs_typed.specs.Endpoints.{IsEndpoint}
use Rattle.double_buffering.specs.Machines.{sink}
use Rattle.double_buffering.proofs.writing.play_sink.Given as goal

abbrev pub invariant-loop : goal.invariant-loop
invariant-loop g l = ((goal.iterator-loop g).can_next l.iterator' × (goal.iterator-loop g).is_finite l.iterator') × IsEndpoint l.session sink l.ready
