use Rattle.std.proofs.Common.{◌≡◌, ◌++◌, drop}
use Rattle.rs_tables.specs.Tables.{rows_from}
use Rattle.rs_tables.proofs.printing.push_rows.Given as goal

abbrev pub invariant-loop-number : goal.invariant-loop-number
invariant-loop-number l = l.text ++ rows_from l.names l.number (drop l.number l.states) ≡ l.initial.text ++ rows_from l.names 0 l.states
