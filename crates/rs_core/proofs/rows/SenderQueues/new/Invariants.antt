use Rattle.std.proofs.Common.{◌≡◌, [], replicate}
use Rattle.rs_core.proofs.rows.SenderQueues.new.Given as goal

abbrev pub invariant-loop : goal.invariant-loop
invariant-loop l = l.queues.items ≡ replicate l.counter []
