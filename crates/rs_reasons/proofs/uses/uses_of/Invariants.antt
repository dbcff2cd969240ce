use Rattle.std.proofs.Common.{take}
use Rattle.rs_reasons.specs.Marks.{AreUses}
use Rattle.rs_reasons.proofs.uses.uses_of.Given as goal

abbrev pub invariant-loop-node : goal.invariant-loop-node
invariant-loop-node l = AreUses (take l.node-index l.nodes) l.states l.uses.items
