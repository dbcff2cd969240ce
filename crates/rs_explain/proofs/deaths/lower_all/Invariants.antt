use Rattle.rs_explain.specs.Deaths.{AreBounds, IsVisited}
use Rattle.rs_explain.proofs.deaths.lower_all.Given as goal

abbrev pub invariant-loop-i : goal.invariant-loop-i
invariant-loop-i l =
    AreBounds l.sub l.above l.bound l.found.table.spots l.order l.far.items
    × IsVisited l.found.anys.items l.found.table.rows l.order l.fn.far.items l.i l.far.items l.lowered
