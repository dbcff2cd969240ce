use Rattle.std.proofs.Common.{List, take, subst}
use Rattle.rs_derive.specs.Data.{DNode_data}
use Rattle.rs_reasons.specs.Marks.{AreUses}
use Rattle.rs_reasons.proofs.Marking.{next_taken}
use Rattle.rs_reasons.proofs.uses.uses_of.Goals as goal

pub loop-node-preserved : goal.loop-node-preserved
loop-node-preserved c =
    subst (λ (z : List DNode_data). AreUses z c.args.states.now c.note_node.new.uses.items)
    (next_taken c.args.nodes.now c.loop-node.node-index c.node-item.result c.loop-node-test.true c.node-item.is)
    (c.note_node.ensures (take c.loop-node.node-index c.args.nodes.now) c.loop-node.invariant)
