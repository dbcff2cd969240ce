use Rattle.rs_typed.specs.Endpoints.{IsEndpoint}
use Rattle.double_buffering.specs.Machines.{kernel}
use Rattle.double_buffering.proofs.copying.play_kernel.Given as goal

abbrev pub invariant-loop : goal.invariant-loop
invariant-loop g l = ((goal.iterator-loop g).can_next l.iterator' × (goal.iterator-loop g).is_finite l.iterator') × IsEndpoint l.session kernel l.ready
