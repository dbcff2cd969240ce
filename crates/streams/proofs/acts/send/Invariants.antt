use Rattle.std.proofs.Common.{◌≡◌}
use Rattle.streams.proofs.Waiting.{IsAs}
use Rattle.streams.proofs.acts.send.Given as goal

abbrev pub invariant-loop : goal.invariant-loop
invariant-loop g l = ((goal.iterator-loop g).can_next l.iterator' × (goal.iterator-loop g).is_finite l.iterator') × IsAs l.session l.fn.stage l.stage × (l.value ≡ l.fn.value)
