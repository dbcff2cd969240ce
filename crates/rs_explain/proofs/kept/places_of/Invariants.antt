use Rattle.rs_explain.specs.KeptNodes.{ArePlaces}
use Rattle.rs_explain.proofs.kept.places_of.Given as goal

abbrev pub invariant-loop-i : goal.invariant-loop-i
invariant-loop-i l = ArePlaces l.current l.items l.i l.places.items
