use Rattle.std.proofs.Common.{◌≡◌, replicate}
use Rattle.rs_run_pictures.proofs.scenes.Row.new.Given as goal

abbrev pub invariant-loop : goal.invariant-loop
invariant-loop l = l.counts.items ≡ replicate l.counter 0
