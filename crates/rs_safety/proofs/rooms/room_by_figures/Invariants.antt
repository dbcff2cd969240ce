use Rattle.rs_safety.proofs.Counting.{CountsTo}
use Rattle.rs_safety.proofs.rooms.room_by_figures.Given as goal

abbrev pub invariant-loop-figures : goal.invariant-loop-figures
invariant-loop-figures l = CountsTo l.figures l.figures-index l.demand.owed l.demand.lag
