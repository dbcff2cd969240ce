use Rattle.std.proofs.Common.{◌≡◌, drop, length}
use Rattle.rs_partings.specs.Rows.{with_back}
use Rattle.rs_partings.proofs.rows.add_back.Given as goal

abbrev pub invariant-loop-next : goal.invariant-loop-next
invariant-loop-next l = record {
  size : length l.back.items ≡ length l.fn.back.items;
  rest : with_back l.back.items l.number (drop l.next-index l.row) ≡ with_back l.fn.back.items l.number l.row;
}
