use Rattle.std.proofs.Common.{◌-◌, length}
use Rattle.rs_model.specs.declared.limits.TheConstants.{MOST_CANDIDATES}
use Rattle.rs_search.specs.Itself.{ArePositions}
use Rattle.rs_search.specs.Spots.{spots_of}
use Rattle.rs_search.proofs.Lengthening.{AreMadeTo}
use Rattle.rs_search.proofs.itself.nodes_itself.Given as goal

abbrev pub invariant-loop-known : goal.invariant-loop-known
invariant-loop-known l = AreMadeTo l.machine l.nodes.items l.known × ArePositions (spots_of l.nodes.items) l.places.items (length l.machine.states)

abbrev pub decreases-loop-known : goal.decreases-loop-known
decreases-loop-known l = MOST_CANDIDATES - l.known
