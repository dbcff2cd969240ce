use Rattle.rs_explain.specs.Deaths.{AreBoundsTo}
use Rattle.rs_explain.proofs.deaths.places_in.Given as goal

abbrev pub invariant-loop-i : goal.invariant-loop-i
invariant-loop-i l = AreBoundsTo l.sub l.above l.bound l.found.table.spots l.order l.i l.far.items
