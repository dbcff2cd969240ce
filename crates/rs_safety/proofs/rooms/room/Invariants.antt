use Rattle.std.proofs.Common.{map}
use Rattle.rs_safety.specs.Figures.{figures_of}
use Rattle.rs_safety.proofs.Counting.{CountsTo}
use Rattle.rs_safety.proofs.rooms.room.Given as goal

abbrev pub invariant-loop-derivation : goal.invariant-loop-derivation
invariant-loop-derivation l = CountsTo (map figures_of l.derivations) l.derivation-index l.demand.owed l.demand.lag
