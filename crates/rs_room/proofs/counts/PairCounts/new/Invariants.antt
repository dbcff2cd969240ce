use Rattle.std.proofs.Common.{◌≡◌, replicate}
use Rattle.rs_room.proofs.counts.PairCounts.new.Given as goal

abbrev pub invariant-loop : goal.invariant-loop
invariant-loop l = l.rows.items ≡ replicate l.counter (replicate l.roles 0)
