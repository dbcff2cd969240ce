use Rattle.rs_project.specs.Marks.{AreRows}
use Rattle.rs_partings.proofs.rows.rows_through.Given as goal

abbrev pub invariant-loop-number : goal.invariant-loop-number
invariant-loop-number l = AreRows l.protocol l.through l.number l.rows.items
