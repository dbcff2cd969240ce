use Rattle.rs_explain.proofs.Mending.{AreNumberedSoFar}
use Rattle.rs_explain.proofs.helping.numbers_among.Given as goal

abbrev pub invariant-loop-number : goal.invariant-loop-number
invariant-loop-number l = AreNumberedSoFar l.found.table.spots l.those.table.spots l.found.table.rows l.number l.numbers.items
