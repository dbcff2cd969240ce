use Rattle.rs_project.specs.Marks.{AreRows}
use Rattle.rs_project.proofs.rounds.rows_of.Given as goal

abbrev pub invariant-loop-number : goal.invariant-loop-number
invariant-loop-number l = AreRows l.protocol l.flags l.number l.rows.items
