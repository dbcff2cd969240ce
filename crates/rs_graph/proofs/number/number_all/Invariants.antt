use Rattle.std.proofs.Common.{◌-◌, length}
use Rattle.rs_graph.proofs.Numbering.{Going}
use Rattle.rs_graph.proofs.number.number_all.Given as goal

abbrev pub invariant-loop-alloc : goal.invariant-loop-alloc
invariant-loop-alloc g l = Going l.graph.outs l.current l.items.items l.nexts.items l.places.items l.fn.steps l.steps

abbrev pub decreases-loop-alloc : goal.decreases-loop-alloc
decreases-loop-alloc g l = length l.graph.outs - length l.nexts.items
