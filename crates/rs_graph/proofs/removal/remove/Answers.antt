use Rattle.std.proofs.Common.{rules, arith, ◌<◌, ◌+◌, ℕ, length}
use Rattle.rs_graph.specs.Removal.{cost_of}
use Rattle.rs_graph.specs.Removing.{From}
use Rattle.rs_graph.proofs.Growth.{at_within, at_short}
use Rattle.rs_graph.proofs.Removed.{begins, order_few, cost_on, finish}
use Rattle.rs_graph.proofs.removal.remove.Goals as goal

pub loop-told-init : goal.loop-told-init
loop-told-init g c =
    let b = begins c.args.graph.now.outs c.in_ok-lost.lost.items c.in_ok-current.current.items c.in_ok-order.order.items c.in_ok-lost.ensures (search rules) c.in_ok-order.ensures in
    (b, omega arith, order_few c.args.graph.now.outs c.in_ok-lost.lost.items c.in_ok-current.current.items c.in_ok-order.order.items (From 0) b, omega arith)

pub loop-told-preserved : goal.loop-told-preserved
loop-told-preserved g c =
    let i = c.loop-told.invariant in
    let e = c.in_ok-hand_on.ensures in
    let lt : c.loop-told.told < length c.loop-told.order.items = grind arith in
    let p = at_within c.loop-told.order.items c.loop-told.told lt in
    let q = at_short c.hand_on.new.order.items c.loop-told.told p.0 (e.order c.loop-told.told p.0 p.1) in
    let s = cost_on (λ (n : ℕ). cost_of c.args.graph.now.intos n) c.loop-told.order.items c.hand_on.new.order.items c.loop-told.told e.order lt in
    let a = i.3 in let b = e.steps in
    (e.going, omega arith, order_few c.args.graph.now.outs c.hand_on.new.lost.items c.hand_on.new.current.items c.hand_on.new.order.items (From (c.loop-told.told + 1)) e.going, omega arith)

pub returns-clause-removal : goal.returns-clause-removal
returns-clause-removal g c =
    finish c.args.graph.now.outs c.args.graph.now.intos c.loop-told.lost.items c.loop-told.current.items c.loop-told.order.items c.loop-told.told c.requires.into (grind arith) c.loop-told.invariant.0
