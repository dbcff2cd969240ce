use Rattle.std.proofs.Common.{◌≡◌, take}
use Rattle.rs_search.proofs.table.SpotTable.copy_rows.Given as goal

abbrev pub invariant-loop-number : goal.invariant-loop-number
invariant-loop-number l = l.rows.items ≡ take l.number l.self.rows
