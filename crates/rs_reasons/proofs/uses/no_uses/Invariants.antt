use Rattle.std.proofs.Common.{[], take}
use Rattle.rs_reasons.specs.Marks.{AreUses}
use Rattle.rs_reasons.proofs.uses.no_uses.Given as goal

abbrev pub invariant-loop-state : goal.invariant-loop-state
invariant-loop-state l = AreUses [] (take l.state-index l.states) l.uses.items
