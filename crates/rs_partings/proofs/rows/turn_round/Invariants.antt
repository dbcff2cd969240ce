use Rattle.std.proofs.Common.{◌≡◌, [], drop, length, replicate}
use Rattle.rs_partings.specs.Rows.{turned}
use Rattle.rs_partings.proofs.rows.turn_round.Given as goal

abbrev pub invariant-loop-number : goal.invariant-loop-number
invariant-loop-number l = record {
  size : length l.back.items ≡ length l.rows;
  rest : turned l.number (drop l.number l.rows) l.back.items ≡ turned 0 l.rows (replicate (length l.rows) []);
}
