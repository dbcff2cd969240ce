use Rattle.std.proofs.Common.{◌≡◌, drop, length}
use Rattle.rs_explain.specs.Helping.{noted}
use Rattle.rs_explain.proofs.helping.note.Given as goal

abbrev pub invariant-loop-i : goal.invariant-loop-i
invariant-loop-i l = record {
  size : length l.numbers.items ≡ length l.fn.numbers.items;
  rest : noted (drop l.i l.row) (drop l.i l.beside) l.numbers.items ≡ noted l.row l.beside l.fn.numbers.items;
}
