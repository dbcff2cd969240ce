use Rattle.std.proofs.Common.{◌≡◌, replicate}
use Rattle.rs_run_pictures.proofs.scenes.rows_of.Given as goal

abbrev pub invariant-loop : goal.invariant-loop
invariant-loop l = l.rows.items ≡ replicate l.counter (replicate l.roles 0)
